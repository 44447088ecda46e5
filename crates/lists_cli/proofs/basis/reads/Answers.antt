use Rattle.std.proofs.Common.{◌+◌, ◌-◌, ◌^◌, min, take, sym, ap, ◌∙◌}
use Rattle.lists_cli.specs.Meaning.Rests.{if_committed, of_committed, reads_of}
use Rattle.lists_cli.proofs.Counted.{counted_zero, sum_more_sum}
use Rattle.lists_cli.proofs.basis.reads.Goals as goal

pub loop-transaction-init : goal.loop-transaction-init
loop-transaction-init c = counted_zero

pub loop-transaction-preserved : goal.loop-transaction-preserved
loop-transaction-preserved c =
    let ts = c.args.transactions.now in
    let i = c.loop-transaction.transaction-index in
    c.saturating_add-all.ensures ∙ ap (λ n. min (n + c.reads_by.result) (2 ^ 64 - 1)) c.loop-transaction.invariant
    ∙ ap (λ n. min (of_committed reads_of (take i ts) + n) (2 ^ 64 - 1)) c.reads_by.ensures
    ∙ sum_more_sum (if_committed reads_of) ts i c.transaction-item.result (if_committed reads_of c.transaction-item.result)
    c.loop-transaction-test.true (sym (ap (if_committed reads_of) c.transaction-item.is))
