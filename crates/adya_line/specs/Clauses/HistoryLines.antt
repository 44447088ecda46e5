-- The lines of a history text, by their kind.
use Rattle.std.specs.Prelude.{ℕ}
use Rattle.adya_values.specs.declared.edition.Edition.{Edition}
use Rattle.adya_keys.specs.Meaning.Keys.{Bytes, IsTxn}
use Rattle.adya_values.specs.Meaning.Histories.{Event, Order, FinalPair}
use Rattle.adya_values.specs.Mirror.Events.{order_of, final_of}
use Rattle.adya_line.specs.Meaning.Spelling.{head_text, tail, event_text, unfinished_text, order_text, final_text}
use Rattle.adya_line.specs.Meaning.Limits.{IsEvent, IsOrder, IsFinal}
use Rattle.adya_line.specs.declared.history_lines.HistoryLine.{HistoryLine as LineValue}
use Rattle.adya_line.specs.declared.history_lines.HistoryLine.TheVariants as In
use Rattle.adya_line.specs.Mirror.{view}
use Rattle.adya_line.specs.Meaning.Lines.{Spells, SpellsNone}
use Rattle.adya_line.specs.Clauses.OnlyLines.{SpellsOnly}

-- the head of an edition; an event, an unfinished transaction, an order, a final; the tail
pub data Line : Type 0 where
  HeadLine : (edition : Edition) → Line
  EventLine : (event : Event) → Line
  UnfinishedLine : (txn : ℕ) → Line
  OrderLine : (order : Order) → Line
  FinalLine : (pair : FinalPair) → Line
  TailLine : Line

abbrev pub line_of : LineValue → Line
line_of (In.Head e) = HeadLine e
line_of (In.Event v) = EventLine (view v)
line_of (In.Unfinished t) = UnfinishedLine t
line_of (In.Order o) = OrderLine (order_of o)
line_of (In.Final f) = FinalLine (final_of f)
line_of In.Tail = TailLine

abbrev pub line_text : Line → Bytes
line_text (HeadLine e) = head_text e
line_text (EventLine v) = event_text v
line_text (UnfinishedLine t) = unfinished_text t
line_text (OrderLine o) = order_text o
line_text (FinalLine f) = final_text f
line_text TailLine = tail

-- what it holds is within its limits
abbrev pub IsLine : Line → Type 0
IsLine (HeadLine e) = Unit {0}
IsLine (EventLine v) = IsEvent v
IsLine (UnfinishedLine t) = IsTxn t
IsLine (OrderLine o) = IsOrder o
IsLine (FinalLine f) = IsFinal f
IsLine TailLine = Unit {0}

-- the text is that of the line; of no line; of this line, and of no other
abbrev pub IsLineOf : Line → Bytes → Type 0
IsLineOf = Spells IsLine line_text

abbrev pub IsNoLine : Bytes → Type 0
IsNoLine = SpellsNone IsLine line_text

abbrev pub IsOnlyLineOf : Line → Bytes → Type 0
IsOnlyLineOf = SpellsOnly IsLine line_text
