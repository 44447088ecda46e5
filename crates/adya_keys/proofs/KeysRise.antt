-- Keys that rise, from what a test of each element and the next says.
use Rattle.std.proofs.Common.{◌≡◌, ℕ, zero, suc, ◌+◌, ◌<◌, Bool, true, false, ◌&&◌, List, [], ◌∷◌, length, map, get_or, refl, sym, ◌∙◌, ap, subst, arith}
use Rattle.std.proofs.Math.Bool.{and-false}
use Rattle.std.proofs.lemmas.Bool.{and_from}
use Rattle.std.specs.List.{IsAllAdjacentAnswer}
use Rattle.adya_keys.specs.Meaning.Keys.{key_lt, keys_rise}

keys_rise-when : {Y : Type 0} (key : Y → List ℕ) (ys : List Y)
    → ((k : ℕ) (d : Y) → k + 1 < length ys → true ≡ key_lt (key (get_or ys k d)) (key (get_or ys (k + 1) d))) → keys_rise (map key ys) ≡ true
keys_rise-when key [] h = refl
keys_rise-when key (y ∷ []) h = refl
keys_rise-when {Y} key (y ∷ z ∷ zs) h =
    let next = λ (k : ℕ) (d : Y) (l : k + 1 < length (z ∷ zs)).
    let more : suc k + 1 ≡ suc (k + 1) = omega arith in
    subst (λ n. true ≡ key_lt (key (get_or (z ∷ zs) k d)) (key (get_or (y ∷ z ∷ zs) n d))) more (h (suc k) d (omega (arith, l))) in
    and_from _ _ (sym (h 0 y (omega arith))) (keys_rise-when key (z ∷ zs) next)

keys_rise-fails : {Y : Type 0} (key : Y → List ℕ) (ys : List Y) (k : ℕ) → k + 1 < length ys
    → ((d : Y) → false ≡ key_lt (key (get_or ys k d)) (key (get_or ys (k + 1) d))) → keys_rise (map key ys) ≡ false
keys_rise-fails key [] k l h = absurd (omega (arith, l))
keys_rise-fails key (y ∷ []) k l h = absurd (omega (arith, l))
keys_rise-fails key (y ∷ z ∷ zs) zero l h = ap (λ b. b && keys_rise (map key (z ∷ zs))) (sym (h y))
keys_rise-fails {Y} key (y ∷ z ∷ zs) (suc k) l h =
    let more : suc k + 1 ≡ suc (k + 1) = omega arith in
    let next = λ (d : Y). subst (λ n. false ≡ key_lt (key (get_or (z ∷ zs) k d)) (key (get_or (y ∷ z ∷ zs) n d))) more (h d) in
    ap (λ b. key_lt (key y) (key z) && b) (keys_rise-fails key (z ∷ zs) k (omega (arith, l)) next) ∙ and-false (key_lt (key y) (key z))

-- the test of each element's key and the next one's
pub keys_rise_is : {Y : Type 0} (key : Y → List ℕ) (ys : List Y) (r : Bool) → IsAllAdjacentAnswer (λ x y b. b ≡ key_lt (key x) (key y)) ys r
    → r ≡ keys_rise (map key ys)
keys_rise_is key ys true a = sym (keys_rise-when key ys a)
keys_rise_is key ys false a = sym (keys_rise-fails key ys a.0 a.1 a.2)
