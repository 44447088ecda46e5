-- Which line of a certificate text may come next, by the stage that the lines before have led to, and what lines hold.
use Rattle.std.specs.Prelude.{ℕ, Bool, true, false, List, [], ◌∷◌, ◌++◌}
use Rattle.adya_line.specs.Clauses.SerialLines.{Line, HeadLine, TxnLine, TailLine, IsLine, line_text}
use Rattle.adya_text.specs.Computing.Runs.{Machine}
use Rattle.adya_text.specs.declared.serial_draft.Stage.{Stage}
use Rattle.adya_text.specs.declared.serial_draft.Stage.TheVariants.{Head, Txns, Done}

-- the head comes first, and the tail last
abbrev pub allows : Stage → Line → Bool
allows Head HeadLine = true
allows Txns (TxnLine t) = true
allows Txns TailLine = true
allows s x = false

-- the stage after a line
abbrev pub stage_after : Line → Stage
stage_after HeadLine = Txns
stage_after (TxnLine t) = Txns
stage_after TailLine = Done

-- the transactions, and the one that the line holds
abbrev pub with_line : List ℕ → Line → List ℕ
with_line ts (TxnLine t) = ts ++ t ∷ []
with_line ts HeadLine = ts
with_line ts TailLine = ts

abbrev pub serial_machine : Machine Stage (List ℕ) Line
serial_machine = record {
  allows = allows;
  after = λ s x. stage_after x;
  with_line = with_line;
  text = line_text;
  good = IsLine;
  start = Head;
  done = Done;
  nothing = [];
}
