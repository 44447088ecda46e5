-- The lines of a certificate text, by their kind.
use Rattle.std.specs.Prelude.{ℕ}
use Rattle.adya_keys.specs.Meaning.Keys.{Bytes, IsTxn}
use Rattle.adya_line.specs.Meaning.Spelling.{serial_head, tail, txn_text}
use Rattle.adya_line.specs.declared.serial_lines.SerialLine.{SerialLine as LineValue}
use Rattle.adya_line.specs.declared.serial_lines.SerialLine.TheVariants as In
use Rattle.adya_line.specs.Meaning.Lines.{Spells, SpellsNone}
use Rattle.adya_line.specs.Clauses.OnlyLines.{SpellsOnly}

-- the head, a transaction, the tail
pub data Line : Type 0 where
  HeadLine : Line
  TxnLine : (txn : ℕ) → Line
  TailLine : Line

abbrev pub line_of : LineValue → Line
line_of In.Head = HeadLine
line_of (In.Txn t) = TxnLine t
line_of In.Tail = TailLine

abbrev pub line_text : Line → Bytes
line_text HeadLine = serial_head
line_text (TxnLine t) = txn_text t
line_text TailLine = tail

-- what it holds is within its limits
abbrev pub IsLine : Line → Type 0
IsLine HeadLine = Unit {0}
IsLine (TxnLine t) = IsTxn t
IsLine TailLine = Unit {0}

-- the text is that of the line; of no line; of this line, and of no other
abbrev pub IsLineOf : Line → Bytes → Type 0
IsLineOf = Spells IsLine line_text

abbrev pub IsNoLine : Bytes → Type 0
IsNoLine = SpellsNone IsLine line_text

abbrev pub IsOnlyLineOf : Line → Bytes → Type 0
IsOnlyLineOf = SpellsOnly IsLine line_text
