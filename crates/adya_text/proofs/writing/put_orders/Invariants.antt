-- The lines so far are written.
use Rattle.std.proofs.Common.{take}
use Rattle.adya_values.specs.Mirror.Lines.{orders_of}
use Rattle.devices.specs.Clauses.Writing.{Grew}
use Rattle.adya_line.specs.Meaning.Spelling.{order_text}
use Rattle.adya_text.specs.Machinery.TextParts.{lines_of}
use Rattle.adya_text.proofs.writing.put_orders.Given as goal

abbrev pub invariant-loop-i : goal.invariant-loop-i
invariant-loop-i g l =
    Grew g.W.Write.contents l.initial.out l.out (lines_of order_text (take l.i (orders_of l.orders)))
