use Rattle.std.proofs.Common.{◌<◌, List, length, option_map, slice_get, sym, ◌∙◌, ap, subst}
use Rattle.adya_values.specs.Meaning.Histories.{Event}
use Rattle.adya_values.specs.Meaning.Events.{txn_of}
use Rattle.adya_dsg.specs.Machinery.VersionOrders.{ordered_history}
use Rattle.adya_dsg.proofs.EventsAt.{told}
use Rattle.adya_dsg.proofs.version_orders.VersionOrders.txn.Goals as goal

pub txn_at-requires : goal.txn_at-requires
txn_at-requires c = subst (λ (es : List Event). c.args.event < length es) (sym c.args.self.now.same) c.requires

pub returns : goal.returns
returns c =
    let g = c.args.self.now in
    let i = c.args.event in
    told txn_of (ordered_history g).events i c.requires _
    (ap (λ es. option_map txn_of (slice_get es i)) (sym g.same) ∙ c.txn_at.ensures)
