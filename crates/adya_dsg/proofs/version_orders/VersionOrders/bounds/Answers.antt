use Rattle.std.proofs.Common.{option_and_then, slice_get, refl, ◌∙◌, ap}
use Rattle.adya_values.specs.Mirror.Numbers.{bounds}
use Rattle.adya_dsg.specs.Machinery.VersionOrders.{ordered_history}
use Rattle.adya_dsg.proofs.EventsAt.{told_if}
use Rattle.adya_dsg.proofs.version_orders.VersionOrders.bounds.Goals as goal

pub returns-clause-keys : goal.returns-clause-keys
returns-clause-keys c =
    let g = c.args.self.now in
    let i = c.args.event in
    c.bounds_at.ensures.keys ∙
    (ap (λ es. option_and_then bounds (slice_get es i)) g.same ∙ told_if bounds refl (ordered_history g).events i)
