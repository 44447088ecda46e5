use Rattle.std.proofs.Common.{◌<◌, List, length, option_map, slice_get, sym, ◌∙◌, ap, subst}
use Rattle.adya_values.specs.Meaning.Histories.{Event}
use Rattle.adya_values.specs.Meaning.Events.{observed}
use Rattle.adya_dsg.specs.Machinery.VersionOrders.{ordered_history}
use Rattle.adya_dsg.proofs.EventsAt.{told}
use Rattle.adya_dsg.proofs.version_orders.VersionOrders.observed.Goals as goal

pub observed-requires : goal.observed-requires
observed-requires c = subst (λ (es : List Event). c.args.event < length es) (sym c.args.self.now.same) c.requires

pub returns-clause-entries : goal.returns-clause-entries
returns-clause-entries c =
    let g = c.args.self.now in
    let i = c.args.event in
    sym (told observed (ordered_history g).events i c.requires _
    (ap (λ es. option_map observed (slice_get es i)) (sym g.same) ∙ c.observed.ensures.entries))

pub returns-clause-there : goal.returns-clause-there
returns-clause-there c = c.observed.ensures.there
