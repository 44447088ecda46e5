use Rattle.std.proofs.Common.{take}
use Rattle.std.specs.List.{flat_map}
use Rattle.devices.specs.Clauses.Writing.{Grew}
use Rattle.adya_line.specs.Meaning.Spelling.{later_text}
use Rattle.adya_line.proofs.writing.put_later.Given as goal

abbrev pub invariant-loop-txn : goal.invariant-loop-txn
invariant-loop-txn g l =
    Grew g.W.Write.contents l.initial.out l.out (flat_map later_text (take l.txn-index l.writers))
