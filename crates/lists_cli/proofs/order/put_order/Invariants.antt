-- The lines so far are written.
use Rattle.std.proofs.Common.{take}
use Rattle.devices.specs.Clauses.Writing.{Grew}
use Rattle.lists_cli.specs.Meaning.Answers.{order_text}
use Rattle.lists_cli.proofs.order.put_order.Given as goal

abbrev pub invariant-loop-place : goal.invariant-loop-place
invariant-loop-place g l =
    Grew g.W.Write.contents l.initial.out l.out (order_text l.labels (take l.place-index l.order))
