-- The lines so far are written.
use Rattle.std.proofs.Common.{take}
use Rattle.devices.specs.Clauses.Writing.{Grew}
use Rattle.adya_line.specs.Meaning.Spelling.{unfinished_text}
use Rattle.adya_text.specs.Machinery.TextParts.{lines_of}
use Rattle.adya_text.proofs.writing.put_unfinished.Given as goal

abbrev pub invariant-loop-txn : goal.invariant-loop-txn
invariant-loop-txn g l =
    Grew g.W.Write.contents l.initial.out l.out (lines_of unfinished_text (take l.txn-index l.txns))
