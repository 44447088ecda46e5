-- What a draft of a certificate holds of the lines so far.
use Rattle.std.specs.Prelude.{◌≡◌, ℕ, ◌+◌, List, length, Option, Some}
use Rattle.adya_text.specs.Computing.Runs.{HasRun}
use Rattle.adya_line.specs.Clauses.SerialLines.{Line}
use Rattle.adya_text.specs.Computing.SerialRuns.{serial_machine, stage_after, with_line}
use Rattle.adya_text.specs.declared.serial_draft.Stage.{Stage}
use Rattle.adya_text.specs.declared.serial_draft.Stage.TheVariants.{Head, Txns, Done}
use Rattle.adya_text.specs.declared.serial_draft.SerialDraft.{SerialDraft}

-- the most bytes of a line that may come in the stage: `serial 1` has 8, and 4294967295 has 10
abbrev pub longest_line : Stage → Option ℕ
longest_line Head = Some 8
longest_line Txns = Some 10
longest_line Done = Some 0

-- the number of the line after the head and the tail that led to the stage
abbrev pub line_after : Stage → ℕ
line_after Head = 1
line_after Txns = 2
line_after Done = 3

-- the number of the line that comes next
abbrev pub next_line : Stage → List ℕ → ℕ
next_line s ts = line_after s + length ts

-- the lines so far are those of a run to the draft's stage, and the draft holds what they hold
abbrev pub HasLines : SerialDraft → List (List ℕ) → Type 0
HasLines d lines = HasRun serial_machine d.stage d.txns.items lines

-- the new draft is the old one with what the line holds
pub record Takes (old new : SerialDraft) (x : Line) : Type 0 where
  pub stage : new.stage ≡ stage_after x
  pub holds : new.txns.items ≡ with_line old.txns.items x
