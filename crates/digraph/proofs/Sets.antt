-- A set of nodes after one was added or removed.
use Rattle.std.proofs.Common.{◌≡◌, ◌≢◌, ℕ, ◌==◌, Bool, true, false, cond, ◌||◌, List, [], ◌∷◌, ◌++◌, refl, sym, ◌∙◌, arith, inl, inr}
use Rattle.std.specs.List.{list_any}
use Rattle.std.proofs.lemmas.List.Folds.{list_any-append}
use Rattle.digraph.specs.declared.arc.Arc.{Arc}
use Rattle.std.proofs.lemmas.Bool.{eq-eqb, ne_eqb, cases_eq, cond-true, cond-false, or_left, or_right}
use Rattle.std.proofs.lemmas.Bool.Decides.{nat_tests}
use Rattle.std.specs.Ordering.{nat_cmp, is_eq}

pub is_eq_nat : (k q : ℕ) → is_eq (nat_cmp k q) ≡ (k == q)
is_eq_nat k q = grind (arith, nat_tests)

pub updated_here : (k q : ℕ) (now was b : Bool) → now ≡ cond (is_eq (nat_cmp k q)) b was → k ≡ q → now ≡ b
updated_here k q now was b h e = h ∙ cond-true _ b was (is_eq_nat k q ∙ eq-eqb k q e)

pub updated_apart : (k q : ℕ) (now was b : Bool) → now ≡ cond (is_eq (nat_cmp k q)) b was → k ≢ q → now ≡ was
updated_apart k q now was b h e = h ∙ cond-false _ b was (is_eq_nat k q ∙ ne_eqb k q e)

pub added : (k q : ℕ) (now was : Bool) → now ≡ cond (is_eq (nat_cmp k q)) true was → now ≡ (was || (k == q))
added k q now was h =
    elim (cases_eq k q) [
      | inl e ↦ updated_here k q now was true h e ∙ sym (or_right was (k == q) (eq-eqb k q e))
      | inr ne ↦ updated_apart k q now was true h ne ∙
          (elim was as (λ w. w ≡ (w || (k == q))) [ true ↦ refl | false ↦ sym (ne_eqb k q ne) ])
    ]

-- if a node is removed whenever an arc to it is added to the list, each removed node has an arc to it
pub met_more : (remaining was now : ℕ → Bool) (trail : List Arc) (a : Arc) (at : ℕ) → a.to ≡ at
    → ((q : ℕ) → now q ≡ cond (is_eq (nat_cmp at q)) false (was q))
    → ((q : ℕ) → remaining q ≡ true → was q ≡ false → list_any (λ x. x.to == q) trail ≡ true)
    → (q : ℕ) → remaining q ≡ true → now q ≡ false → list_any (λ x. x.to == q) (trail ++ a ∷ []) ≡ true
met_more remaining was now trail a at to up met q l n =
    list_any-append (λ x. x.to == q) trail (a ∷ []) ∙
    elim (cases_eq at q) [
      | inl same ↦ or_right (list_any (λ x. x.to == q) trail) _ (or_left (a.to == q) false (eq-eqb a.to q (to ∙ same)))
      | inr apart ↦ or_left _ _ (met q l (sym (updated_apart at q (now q) (was q) false (up q) apart) ∙ n))
    ]
