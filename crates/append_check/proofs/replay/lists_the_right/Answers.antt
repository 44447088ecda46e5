use Rattle.std.proofs.Common.{arith}
use Rattle.append_check.proofs.Listed.{all_occur, next_occurs}
use Rattle.append_check.proofs.replay.lists_the_right.Goals as goal

pub returns : goal.returns
returns c b =
    let told = rw c.in-Some.is at c.in_ok-listed.ensures in
    all_occur c.args.transactions.now c.args.order.now c.in-Some.listed.items told.0 told.1 (λ t l. c.places.invariant t (omega arith))

pub places-preserved : goal.places-preserved
places-preserved c =
    let told = rw c.in-Some.is at c.in_ok-listed.ensures in
    next_occurs c.args.transactions.now c.in-Some.listed.items told.0 c.places.place c.index-transactions-place.result c.index.result.now
    c.places-test.true c.index-transactions-place.is c.index.ensures (c.is_right.ensures c.if-not-is_right.false) c.places.invariant
