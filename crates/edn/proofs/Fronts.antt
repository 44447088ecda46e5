-- What follows the first element of a list.
use Rattle.std.proofs.Common.{◌≡◌, ℕ, suc, ◌-◌, ◌<◌, ◌≤◌, List, [], ◌∷◌, length, get_or, take, drop, refl, sym, ap, arith}
use Rattle.std.proofs.lemmas.Grind.{common_steps}

abbrev pub behind : List ℕ → List ℕ
behind xs = take (length xs - 1) (drop 1 xs)

pub behind_is : (xs : List ℕ) → take (suc (length xs) - 1) xs ≡ xs
behind_is xs = grind (arith, common_steps)

pub whole : (x : ℕ) (xs : List ℕ) → 1 ≤ length xs → get_or xs 0 0 ≡ x → x ∷ behind xs ≡ xs
whole x [] some is = absurd (omega arith)
whole x (y ∷ ys) some is = rw (behind_is ys) (ap (λ z. z ∷ ys) (sym is))

pub none : (xs : List ℕ) → length xs < 1 → [] ≡ xs
none [] few = refl
none (x ∷ xs) few = absurd (omega arith)
