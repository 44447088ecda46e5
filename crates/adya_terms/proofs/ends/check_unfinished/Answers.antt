use Rattle.std.proofs.Common.{◌+◌, ◌∙◌, sym, ap}
use Rattle.adya_values.specs.Computing.Faults.{first}
use Rattle.adya_terms.specs.Machinery.EventIndex.{indexed, unfinished_in}
use Rattle.adya_terms.proofs.Firsts.{unfinished_here, unfinished_later}
use Rattle.adya_terms.proofs.ends.check_unfinished.Goals as goal

pub returns-then-has_ended : goal.returns-then-has_ended
returns-then-has_ended c =
    let all = indexed c.args.index.now in
    let i = c.loop-i.i in
    let t = c.txn-item.result in
    ap first c.loop-i.invariant ∙
    unfinished_here all (c.args.first + i) (unfinished_in c.args.index.now) i t c.loop-i-test.true c.txn-item.is
    (sym c.has_ended.ensures ∙ c.if-has_ended.true)

pub loop-i-preserved : goal.loop-i-preserved
loop-i-preserved c =
    let all = indexed c.args.index.now in
    let t = c.txn-item.result in
    c.loop-i.invariant ∙
    unfinished_later all c.args.first (unfinished_in c.args.index.now) c.loop-i.i t c.loop-i-test.true c.txn-item.is
    (sym c.has_ended.ensures ∙ c.if-has_ended.false)
