use Rattle.std.proofs.Common.{◌+◌, ◌-◌, ◌^◌, min, sym, ap, ◌∙◌, arith}
use Rattle.lists_cli.specs.Meaning.Rests.{elements_of}
use Rattle.lists_cli.proofs.Counted.{counted_zero, more_sum}
use Rattle.lists_cli.proofs.basis.elements_in.Goals as goal

pub loop-operation-init : goal.loop-operation-init
loop-operation-init c = counted_zero

pub loop-operation-preserved : goal.loop-operation-preserved
loop-operation-preserved c =
    c.saturating_add-all.ensures ∙ ap (λ n. min (n + c.elements_of.result) (2 ^ 64 - 1)) c.loop-operation.invariant
    ∙ more_sum elements_of c.args.operations.now c.loop-operation.operation-index c.operation-item.result c.elements_of.result
    c.loop-operation-test.true (sym (c.elements_of.ensures ∙ ap elements_of c.operation-item.is)) (omega arith)
