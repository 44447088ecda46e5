use Rattle.std.proofs.Common.{◌∙◌, List, option_map, slice_get, sym, ap}
use Rattle.adya_values.specs.Meaning.Histories.{Order}
use Rattle.adya_dsg.specs.Machinery.VersionOrders.{ordered_history}
use Rattle.adya_dsg.proofs.Lines.{writers_at}
use Rattle.adya_dsg.proofs.version_orders.VersionOrders.writers.Goals as goal

pub returns : goal.returns
returns c =
    let i = c.args.line in
    writers_at (ordered_history c.args.self.now).orders c.orders.ensures.rise i c.requires c.writers.result.now
    (ap (λ (os : List Order). option_map (λ o. o.writers) (slice_get os i)) (sym c.orders.ensures.value) ∙ c.writers.ensures)
