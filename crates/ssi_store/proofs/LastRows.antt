-- How far a limited scan looked, by the last of its rows.
use Rattle.std.proofs.Common.{List, Some, [], ap, arith, length, map, slice_get, suc, sym, zero, ℕ, ◌-◌, ◌==◌, ◌∙◌, ◌∷◌, ◌≡◌}
use Rattle.std.proofs.lemmas.Bool.{cond-true, eq-eqb}
use Rattle.std.proofs.lemmas.List.{length-map}
use Rattle.std.proofs.lemmas.Option.{none-some, same_Some}
use Rattle.adya_values.specs.Meaning.Events.{last}
use Rattle.adya_values.specs.Mirror.Events.{final_of}
use Rattle.adya_values.specs.declared.order.FinalPair.{FinalPair}
use Rattle.ssi_snapshot.specs.Meaning.Reached.{key_or, reached}

row_at : (rs : List FinalPair) (k : ℕ) (r : FinalPair) → suc k ≡ length rs → slice_get rs k ≡ Some r
    → last (map final_of rs) ≡ Some (final_of r)
row_at [] k r n e = absurd (none-some r e)
row_at (x ∷ []) zero r n e = ap (λ y. Some (final_of y)) (same_Some x r e)
row_at (x ∷ []) (suc k) r n e = absurd (none-some r e)
row_at (x ∷ y ∷ rs) zero r n e = absurd (omega (arith, n))
row_at (x ∷ y ∷ rs) (suc k) r n e = row_at (y ∷ rs) k r (omega (arith, n)) e

last_row : (rs : List FinalPair) (r : FinalPair) → slice_get rs (length rs - 1) ≡ Some r
    → last (map final_of rs) ≡ Some (final_of r)
last_row [] r e = absurd (none-some r e)
last_row (x ∷ rs) r e = row_at (x ∷ rs) (length (x ∷ rs) - 1) r (omega arith) e

-- if as many rows were found as the limit, the scan looked to the last of them
pub to_last : (high : List ℕ) (n : ℕ) (rs : List FinalPair) (r : FinalPair) → length rs ≡ n
    → slice_get rs (length rs - 1) ≡ Some r → r.key ≡ reached high n (map final_of rs)
to_last high n rs r full at = sym
    (cond-true {A = List ℕ} (length (map final_of rs) == n) (key_or high (last (map final_of rs))) high
    (eq-eqb (length (map final_of rs)) n (length-map rs final_of ∙ full))
    ∙ ap (key_or high) (last_row rs r at))
