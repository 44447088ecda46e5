-- If no transaction commits twice, the committed transactions are those of the commits, one by one.
use Rattle.std.proofs.Common.{◌≡◌, ℕ, false, ◌||◌, nat_eq, if◌then◌else◌, List, [], ◌∷◌, ◌++◌, refl, sym, ◌∙◌, ap, append-nil, append_assoc, fold}
use Rattle.std.specs.List.{list_any, IsDistinct, AllByRecursion}
use Rattle.std.proofs.lemmas.Bool.{ne_eqb, eq-eqb, both_ways}
use Rattle.std.proofs.lemmas.List.Folds.{list_any-append}
use Rattle.ssi_recorder.specs.Meaning.Recorded.{with_number}

-- none of these is among the numbers seen
abbrev AreNew : List ℕ → List ℕ → Type 0
AreNew seen ts = AllByRecursion (λ t. list_any (nat_eq t) seen ≡ false) ts

still_new : (seen : List ℕ) (t : ℕ) (ts : List ℕ) → AreNew seen ts → AllByRecursion (λ u. nat_eq t u ≡ false) ts
    → AreNew (seen ++ t ∷ []) ts
still_new seen t [] all apart = all
still_new seen t (u ∷ ts) all apart =
    let other : nat_eq u t ≡ false = ne_eqb u t (λ e. both_ways (nat_eq t u) apart.0 (eq-eqb t u (sym e))) in (
      list_any-append (nat_eq u) seen (t ∷ []) ∙ ap (λ b. b || (nat_eq u t || false)) all.0 ∙ ap (λ b. b || false) other,
      still_new seen t ts all.1 apart.1,
    )

added : (seen ts : List ℕ) → IsDistinct nat_eq ts → AreNew seen ts → fold with_number seen ts ≡ seen ++ ts
unfolding IsDistinct
added seen [] distinct all = sym (append-nil seen)
added seen (t ∷ ts) distinct all =
    ap (λ b. fold with_number (if b then seen else seen ++ t ∷ []) ts) all.0 ∙
    added (seen ++ t ∷ []) ts distinct.1 (still_new seen t ts all.1 distinct.0) ∙ append_assoc seen (t ∷ []) ts

all_new : (ts : List ℕ) → AreNew [] ts
all_new [] = _
all_new (t ∷ ts) = (refl, all_new ts)

pub distinct_listed : (ts : List ℕ) → IsDistinct nat_eq ts → fold with_number [] ts ≡ ts
distinct_listed ts distinct = added [] ts distinct (all_new ts)
