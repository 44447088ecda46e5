use Rattle.std.proofs.Common.{◌∙◌, slice_get, sym, ap}
use Rattle.adya_dsg.specs.Machinery.VersionOrders.{ordered_history}
use Rattle.adya_dsg.specs.Machinery.Choices.{key_at}
use Rattle.adya_dsg.specs.Machinery.Links.{changed_places}
use Rattle.adya_dsg.proofs.Numbers.{got, first_above}
use Rattle.adya_dsg.proofs.version_orders.VersionOrders.next_change.Goals as goal

pub returns : goal.returns
returns c =
    let h = ordered_history c.args.self.now in
    let k = key_at h c.args.line in
    let i = c.changes_up_to-next.result in
    c.copied.ensures ∙
    (got c.changes.result.now i c.get.result c.get.ensures.lookup.0 c.get.ensures.lookup.1 ∙
    (ap (λ qs. slice_get qs i) c.changes.ensures ∙
    sym (first_above (changed_places h k) c.args.place i c.changes_up_to-next.ensures.up_to)))
