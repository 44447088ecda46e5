-- Sums as far as 64 bits can count.
use Rattle.std.proofs.Common.{◌≡◌, ◌+◌, ◌-◌, ◌^◌, ◌<◌, ℕ, List, length, take, get_or, min, sym, ap, ◌∙◌, arith}
use Rattle.std.specs.List.{sum_by}
use Rattle.std.proofs.lemmas.List.Sums.{sum_by_more}
use Rattle.append_text.specs.Meaning.Texts.{counted}

pub counted_zero : 0 ≡ counted 0
unfolding counted
counted_zero = omega arith

pub counted_more : (n k : ℕ) → k < 2 ^ 64 → min (counted n + k) (2 ^ 64 - 1) ≡ counted (n + k)
unfolding counted
counted_more n k small = omega arith

pub counted_sum : (n k : ℕ) → min (counted n + counted k) (2 ^ 64 - 1) ≡ counted (n + k)
unfolding counted
counted_sum n k = omega arith

-- one more element with this to add
pub more_sum : {X : Type 0} (f : X → ℕ) (xs : List X) (i : ℕ) (d : X) (k : ℕ) → i < length xs → f (get_or xs i d) ≡ k
    → k < 2 ^ 64 → min (counted (sum_by f (take i xs)) + k) (2 ^ 64 - 1) ≡ counted (sum_by f (take (i + 1) xs))
more_sum f xs i d k within is small = counted_more (sum_by f (take i xs)) k small
    ∙ ap counted (sym (sum_by_more f xs i d within ∙ ap (λ n. sum_by f (take i xs) + n) is))

-- one more element with a sum to add
pub sum_more_sum : {X : Type 0} (f : X → ℕ) (xs : List X) (i : ℕ) (d : X) (k : ℕ) → i < length xs → f (get_or xs i d) ≡ k
    → min (counted (sum_by f (take i xs)) + counted k) (2 ^ 64 - 1) ≡ counted (sum_by f (take (i + 1) xs))
sum_more_sum f xs i d k within is = counted_sum (sum_by f (take i xs)) k
    ∙ ap counted (sym (sum_by_more f xs i d within ∙ ap (λ n. sum_by f (take i xs) + n) is))
