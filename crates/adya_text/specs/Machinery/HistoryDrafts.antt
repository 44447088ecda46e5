-- What a draft of a history holds of the lines so far.
use Rattle.std.specs.Prelude.{◌≡◌, ℕ, ◌+◌, List, length, Option, Some, None}
use Rattle.adya_values.specs.Meaning.Histories.{History}
use Rattle.adya_values.specs.Mirror.Events.{events_of}
use Rattle.adya_values.specs.Mirror.Lines.{finals_of, orders_of}
use Rattle.adya_text.specs.Computing.Runs.{HasRun}
use Rattle.adya_line.specs.Clauses.HistoryLines.{Line}
use Rattle.adya_text.specs.Computing.HistoryRuns.{history_machine, stage_after, with_line}
use Rattle.adya_text.specs.declared.history_draft.Stage.{Stage}
use Rattle.adya_text.specs.declared.history_draft.Stage.TheVariants.{Head, Done}
use Rattle.adya_text.specs.declared.history_draft.HistoryDraft.{HistoryDraft}

-- the most bytes of a line that may come in the stage, if there is a most: `adya 1` and `adya 2` have 6
abbrev pub longest_line : Stage → Option ℕ
longest_line Head = Some 6
longest_line Done = Some 0
longest_line s = None

-- the number of the line after the head and the tail that led to the stage
abbrev pub line_after : Stage → ℕ
line_after Head = 1
line_after Done = 3
line_after s = 2

-- the number of the line that comes next
abbrev pub next_line : Stage → History → ℕ
next_line s h = line_after s + (length h.events + (length h.unfinished + (length h.orders + length h.finals)))

-- the history so far
abbrev pub held : HistoryDraft → History
held d = record {
  edition = d.edition;
  events = events_of d.events;
  unfinished = d.unfinished.items;
  orders = orders_of d.orders;
  finals = finals_of d.finals;
}

-- the lines so far are those of a run to the draft's stage, and the draft holds what they hold
abbrev pub HasLines : HistoryDraft → List (List ℕ) → Type 0
HasLines d lines = HasRun history_machine d.stage (held d) lines

-- the new draft is the old one with what the line holds
pub record Takes (old new : HistoryDraft) (x : Line) : Type 0 where
  pub stage : new.stage ≡ stage_after old.stage x
  pub holds : held new ≡ with_line (held old) x
