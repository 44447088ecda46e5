-- Which line of a history text may come next, by the stage that the lines before have led to, and what lines hold.
use Rattle.std.specs.Prelude.{Bool, true, false, nat_lt, [], ◌∷◌, ◌++◌}
use Rattle.adya_values.specs.declared.edition.Edition.{Edition}
use Rattle.adya_values.specs.declared.edition.Edition.TheVariants.{One, Two}
use Rattle.adya_keys.specs.Meaning.Keys.{key_lt}
use Rattle.adya_values.specs.Meaning.Histories.{History}
use Rattle.adya_line.specs.Clauses.HistoryLines.{Line, HeadLine, EventLine, UnfinishedLine, OrderLine, FinalLine, TailLine, IsLine, line_text}
use Rattle.adya_text.specs.Computing.Runs.{Machine}
use Rattle.adya_text.specs.declared.history_draft.Stage.{Stage}
use Rattle.adya_text.specs.declared.history_draft.Stage.TheVariants.{Head, Events, Unfinished, Orders, Finals, Done}

abbrev pub may_be_unfinished : Edition → Bool
may_be_unfinished One = false
may_be_unfinished Two = true

-- the head comes first, the tail last, events before unfinished transactions before orders before finals, and the
-- numbers and the keys rise
abbrev pub allows : Stage → Line → Bool
allows Head (HeadLine e) = true
allows (Events e) (EventLine v) = true
allows (Events e) (UnfinishedLine t) = may_be_unfinished e
allows (Events e) (OrderLine o) = true
allows (Events e) (FinalLine f) = true
allows (Events e) TailLine = true
allows (Unfinished last) (UnfinishedLine t) = nat_lt last t
allows (Unfinished last) (OrderLine o) = true
allows (Unfinished last) (FinalLine f) = true
allows (Unfinished last) TailLine = true
allows (Orders last) (OrderLine o) = key_lt last o.key
allows (Orders last) (FinalLine f) = true
allows (Orders last) TailLine = true
allows (Finals last) (FinalLine f) = key_lt last f.key
allows (Finals last) TailLine = true
allows s x = false

-- the stage after a line
abbrev pub stage_after : Stage → Line → Stage
stage_after s (HeadLine e) = Events e
stage_after s (EventLine v) = s
stage_after s (UnfinishedLine t) = Unfinished t
stage_after s (OrderLine o) = Orders o.key
stage_after s (FinalLine f) = Finals f.key
stage_after s TailLine = Done

-- the history, and what the line holds
abbrev pub with_line : History → Line → History
with_line h (HeadLine e) = record h { edition = e }
with_line h (EventLine v) = record h { events = h.events ++ v ∷ [] }
with_line h (UnfinishedLine t) = record h { unfinished = h.unfinished ++ t ∷ [] }
with_line h (OrderLine o) = record h { orders = h.orders ++ o ∷ [] }
with_line h (FinalLine f) = record h { finals = h.finals ++ f ∷ [] }
with_line h TailLine = h

abbrev pub history_machine : Machine Stage History Line
history_machine = record {
  allows = allows;
  after = stage_after;
  with_line = with_line;
  text = line_text;
  good = IsLine;
  start = Head;
  done = Done;
  nothing = record { edition = One; events = []; unfinished = []; orders = []; finals = [] };
}
