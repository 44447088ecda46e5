-- An order of a list is known by its key and its writers.
use Rattle.std.proofs.Common.{◌≡◌, ℕ, List, Option, Some, None, option_map, slice_get, ap, ◌∙◌}
use Rattle.std.proofs.lemmas.Option.{none-some, same_Some}
use Rattle.adya_values.specs.Meaning.Histories.{Order}

order_is : (o : Option Order) (k ws : List ℕ) → option_map (λ p. p.key) o ≡ Some k
    → option_map (λ p. p.writers) o ≡ Some ws → o ≡ Some (record { key = k; writers = ws })
order_is None k ws key writers = absurd (none-some k key)
order_is (Some o) k ws key writers =
    ap (λ x. Some (record { key = x; writers = o.writers })) (same_Some o.key k key)
    ∙ ap (λ xs. Some (record { key = k; writers = xs })) (same_Some o.writers ws writers)

pub order_at : (os : List Order) (i : ℕ) (k ws : List ℕ) → option_map (λ o. o.key) (slice_get os i) ≡ Some k
    → option_map (λ o. o.writers) (slice_get os i) ≡ Some ws
    → slice_get os i ≡ Some (record { key = k; writers = ws })
order_at os i k ws key writers = order_is (slice_get os i) k ws key writers
