use Rattle.std.proofs.Common.{◌<◌, length, sym, subst, arith}
use Rattle.std.specs.Prelude.{IfSome}
use Rattle.lemmas.proofs.Indices.{all_more}
use Rattle.adya_values.specs.Meaning.Histories.{Order}
use Rattle.adya_values.specs.Mirror.Lines.{orders_of}
use Rattle.adya_line.specs.Meaning.Limits.{IsOrder}
use Rattle.adya_text.proofs.Orders.{order_at}
use Rattle.adya_text.proofs.laws.orders_within.Goals as goal

abbrev IsWithin : Order → Type 0
IsWithin o = 0 < length o.writers → IsOrder o

pub loop-i-preserved : goal.loop-i-preserved
loop-i-preserved c =
    let orders = orders_of c.args.orders.now in
    let i = c.loop-i.i in
    let at = order_at orders i c.key.result c.writers.result.now c.key.ensures c.writers.ensures in
    all_more IsWithin orders i (omega arith) (subst (λ o. IfSome o IsWithin) (sym at) c.order_within.ensures) c.loop-i.invariant
