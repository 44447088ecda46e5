use Rattle.std.proofs.Common.{sym, subst, arith}
use Rattle.std.proofs.lemmas.Grind.{common_steps}
use Rattle.lemmas.proofs.Indices.{flat_map_more}
use Rattle.adya_values.specs.Mirror.Lines.{orders_of}
use Rattle.devices.specs.Clauses.Writing.{Grew}
use Rattle.adya_line.specs.Meaning.Spelling.{order_text}
use Rattle.adya_text.specs.Machinery.TextParts.{ended}
use Rattle.adya_text.proofs.Orders.{order_at}
use Rattle.adya_text.proofs.writing.put_orders.Goals as goal

pub loop-i-preserved : goal.loop-i-preserved
loop-i-preserved g c =
    let orders = orders_of c.args.orders.now in
    let i = c.loop-i.i in
    let at = order_at orders i c.key.result c.writers.result.now c.key.ensures c.writers.ensures in
    let more = flat_map_more (λ o. ended (order_text o)) orders i (record { key = c.key.result; writers = c.writers.result.now }) at in
    subst (λ bytes. Grew g.W.Write.contents c.args.out.now c.put.new.out bytes) (sym more)
    (grind (arith, common_steps))
