use Rattle.std.proofs.Common.{◌≡◌, ◌≤◌, true, List, map, length, subst}
use Rattle.adya_values.specs.Meaning.Histories.{Order}
use Rattle.adya_keys.specs.Meaning.Keys.{keys_rise}
use Rattle.adya_keys.specs.Mirror.{IsBelow}
use Rattle.adya_dsg.specs.Machinery.VersionOrders.{ordered_history}
use Rattle.adya_dsg.proofs.Lines.{keys_below, keys_from}
use Rattle.adya_dsg.proofs.version_orders.VersionOrders.orders_below.Goals as goal

is_below : (c : goal.After-below) → IsBelow (map (λ o. o.key) (ordered_history c.args.self.now).orders) c.args.key c.below.result
is_below c =
    subst (λ (os : List Order). keys_rise (map (λ o. o.key) os) ≡ true → IsBelow (map (λ o. o.key) os) c.args.key c.below.result)
    c.orders.ensures.value c.below.ensures.below c.orders.ensures.rise

pub returns-clause-below : goal.returns-clause-below
returns-clause-below c =
    let os = (ordered_history c.args.self.now).orders in
    keys_below os c.args.key c.below.result (is_below c)
    (subst (λ (zs : List Order). c.below.result ≤ length zs) c.orders.ensures.value c.below.ensures.within)

pub returns-clause-others : goal.returns-clause-others
returns-clause-others c = keys_from (ordered_history c.args.self.now).orders c.args.key c.below.result (is_below c)
