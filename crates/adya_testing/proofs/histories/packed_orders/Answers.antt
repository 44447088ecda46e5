use Rattle.std.proofs.Common.{◌≡◌, ◌∙◌, ◌++◌, ◌∷◌, [], ◌+◌, ap, map, sym, take}
use Rattle.std.proofs.lemmas.List.{map-append, take_more}
use Rattle.adya_values.specs.Mirror.Events.{order_of}
use Rattle.adya_testing.proofs.histories.packed_orders.Goals as goal

pub loop-order-preserved : goal.loop-order-preserved
loop-order-preserved c =
    let os = c.args.orders.now in
    let i = c.loop-order.order-index in
    let o = c.order-item.result in
    let more : take (i + 1) os ≡ take i os ++ o ∷ [] = take_more os i o c.loop-order-test.true ∙ ap (λ y. take i os ++ y ∷ []) (sym c.order-item.is) in
    c.in_ok-push.ensures.ok ∙ (ap (λ xs. xs ++ order_of o ∷ []) c.loop-order.invariant ∙ sym (ap (map order_of) more ∙ map-append order_of (take i os) (o ∷ [])))
