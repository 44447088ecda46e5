use Rattle.std.proofs.Common.{◌∙◌, List, option_map, slice_get, sym, ap}
use Rattle.adya_values.specs.Meaning.Histories.{Order}
use Rattle.adya_dsg.proofs.Lines.{key_told}
use Rattle.adya_dsg.proofs.version_orders.VersionOrders.key.Goals as goal

pub returns : goal.returns
returns c =
    let i = c.args.line in
    key_told _ c.key.result
    (ap (λ (os : List Order). option_map (λ o. o.key) (slice_get os i)) (sym c.orders.ensures.value) ∙ c.key.ensures)
