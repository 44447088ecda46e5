use Rattle.std.proofs.Common.{◌∙◌, suc, ap, arith, add-one}
use Rattle.adya_values.specs.Meaning.Orders.{place}
use Rattle.adya_dsg.proofs.Lines.{place-le}
use Rattle.adya_dsg.proofs.version_orders.VersionOrders.place.Goals as goal

pub overflow_add-result : goal.overflow_add-result
overflow_add-result c =
    let l = place-le c.writers.result.now c.args.txn in
    grind (arith, l)

pub returns : goal.returns
returns c =
    add-one c.count_before.result ∙ ap suc (c.count_before.ensures ∙ ap (λ ws. place ws c.args.txn) c.writers.ensures)
