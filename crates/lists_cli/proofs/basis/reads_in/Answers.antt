use Rattle.std.proofs.Common.{◌+◌, ◌-◌, ◌^◌, min, sym, ap, ◌∙◌, arith}
use Rattle.lists_cli.specs.Meaning.Rests.{reads_of}
use Rattle.lists_cli.proofs.Counted.{counted_zero, more_sum}
use Rattle.lists_cli.proofs.basis.reads_in.Goals as goal

pub loop-operation-init : goal.loop-operation-init
loop-operation-init c = counted_zero

pub loop-operation-preserved : goal.loop-operation-preserved
loop-operation-preserved c =
    c.saturating_add-all.ensures ∙ ap (λ n. min (n + c.reads_of.result) (2 ^ 64 - 1)) c.loop-operation.invariant
    ∙ more_sum reads_of c.args.operations.now c.loop-operation.operation-index c.operation-item.result c.reads_of.result
    c.loop-operation-test.true (sym (c.reads_of.ensures ∙ ap reads_of c.operation-item.is)) (omega arith)
