-- Topological orders, made by placing one node after another.
use Rattle.std.proofs.Common.{◌≡◌, ◌≢◌, ℕ, suc, ◌==◌, ◌<◌, Bool, true, false, cond, List, [], ◌∷◌, ◌++◌, sym, ◌∙◌, ap, subst, arith, inl, inr}
use Rattle.std.proofs.lemmas.Bool.{eq-eqb, ne_eqb, cases_eq, cond-true, cond-false}
use Rattle.lemmas.proofs.Counts.{count, count_same, count_other, count-append}
use Rattle.std.proofs.Common.{Contains, true≢false}
use Rattle.std.specs.List.{list_any}
use Rattle.std.specs.Ordering.{nat_cmp, is_eq}
use Rattle.digraph.specs.declared.arc.Arc.{Arc}
use Rattle.digraph.specs.Clauses.Graphs.{IsGraph, place, IsBefore, IsTopologicalOrder}
use Rattle.digraph.specs.Machinery.Placings.{Places}
use Rattle.digraph.proofs.Sets.{updated_here, updated_apart}

pub place_same : (x : ℕ) (xs : List ℕ) (t : ℕ) → x ≡ t → place (x ∷ xs) t ≡ 0
place_same x xs t e = cond-true {A = ℕ} (x == t) 0 (suc (place xs t)) (eq-eqb x t e)

pub place_other : (x : ℕ) (xs : List ℕ) (t : ℕ) → x ≢ t → place (x ∷ xs) t ≡ suc (place xs t)
place_other x xs t e = cond-false {A = ℕ} (x == t) 0 (suc (place xs t)) (ne_eqb x t e)

before_more : (xs ys : List ℕ) (a b : ℕ) → IsBefore xs a b → IsBefore (xs ++ ys) a b
before_more [] ys a b h = absurd (omega arith)
before_more (x ∷ xs) ys a b h =
    elim (cases_eq x b) [
      | inl e ↦ let none = place_same x xs b e in absurd (omega (arith, none, h))
      | inr ne ↦
          let far = place_other x xs b ne in
          let far' = place_other x (xs ++ ys) b ne in
          elim (cases_eq x a) [
            | inl e ↦ let near' = place_same x (xs ++ ys) a e in omega (arith, far', near')
            | inr other ↦
                let near = place_other x xs a other in
                let near' = place_other x (xs ++ ys) a other in
                let rest = before_more xs ys a b (omega (arith, h, far, near)) in
                omega (arith, far', near', rest)
          ]
    ]

before_new : (xs : List ℕ) (a t : ℕ) → 0 < count xs a → count xs t ≡ 0 → IsBefore (xs ++ t ∷ []) a t
before_new [] a t h none = absurd (omega arith)
before_new (x ∷ xs) a t h none =
    elim (cases_eq x t) [
      | inl e ↦ let some = count_same x xs t e in absurd (omega (arith, some, none))
      | inr ne ↦
          let less = count_other x xs t ne in
          let far = place_other x (xs ++ t ∷ []) t ne in
          elim (cases_eq x a) [
            | inl e ↦ let near = place_same x (xs ++ t ∷ []) a e in omega (arith, far, near)
            | inr other ↦
                let fewer = count_other x xs a other in
                let near = place_other x (xs ++ t ∷ []) a other in
                let rest = before_new xs a t (omega (arith, h, fewer)) (omega (arith, none, less)) in
                omega (arith, far, near, rest)
          ]
    ]

module _ (nodes : List ℕ) (arcs : List Arc) (ends : IsGraph nodes arcs) where
  pub nothing_placed : (remaining : ℕ → Bool) → ((q : ℕ) → remaining q ≡ list_any (λ u. u == q) nodes)
      → Places nodes [] arcs remaining
  nothing_placed remaining all = record {
    once = λ q. let same = ap (λ b. cond {A = ℕ} b 1 0) (all q) in omega (arith, same);
    forward = λ a in' n. absurd (true≢false (sym (ends a in').1 ∙ (sym (all a.to) ∙ n)));
  }

  pub all_placed : (remaining : ℕ → Bool) (placed : List ℕ) → Places nodes placed arcs remaining
      → ((q : ℕ) → remaining q ≡ false) → IsTopologicalOrder nodes arcs placed
  all_placed remaining placed p none = record {
    nodes_once = λ q. let one = p.once q in let zero' = cond-false {A = ℕ} (remaining q) 1 0 (none q) in
        omega (arith, one, zero');
    forward = λ a in'. p.forward a in' (none a.to);
  }

  pub one_placed : (was now : ℕ → Bool) (placed : List ℕ) (t : ℕ) → Places nodes placed arcs was → was t ≡ true
      → ((a : Arc) → Contains arcs a → a.to ≡ t → was a.from ≡ false)
      → ((q : ℕ) → now q ≡ cond (is_eq (nat_cmp t q)) false (was q)) → Places nodes (placed ++ t ∷ []) arcs now
  one_placed was now placed t p was_remaining ready up =
      let taken : (q : ℕ) → t ≡ q → (now q ≡ false) × (was q ≡ true) =
      λ q e. (updated_here t q (now q) (was q) false (up q) e, subst (λ x. was x ≡ true) e was_remaining) in
      let unmoved : (q : ℕ) → t ≢ q → now q ≡ was q = λ q ne. updated_apart t q (now q) (was q) false (up q) ne in
      let fresh : (q : ℕ) → list_any (λ u. u == q) nodes ≡ true → was q ≡ true → count placed q ≡ 0 = λ q node l.
      let one = p.once q in
      let one' = cond-true {A = ℕ} (was q) 1 0 l in
      let all = cond-true {A = ℕ} (list_any (λ u. u == q) nodes) 1 0 node in
      omega (arith, one, one', all) in
      let old : (q : ℕ) → list_any (λ u. u == q) nodes ≡ true → was q ≡ false → 0 < count placed q = λ q node l.
      let one = p.once q in
      let one' = cond-false {A = ℕ} (was q) 1 0 l in
      let all = cond-true {A = ℕ} (list_any (λ u. u == q) nodes) 1 0 node in
      omega (arith, one, one', all) in
      record {
        once = λ q.
            let parts = count-append placed (t ∷ []) q in
            let one = p.once q in
            elim (cases_eq t q) [
              | inl e ↦
                  let single = count_same t [] q e in
                  let now' = cond-false {A = ℕ} (now q) 1 0 (taken q e).0 in
                  let was' = cond-true {A = ℕ} (was q) 1 0 (taken q e).1 in
                  omega (arith, parts, one, single, now', was')
              | inr ne ↦
                  let single = count_other t [] q ne in
                  let same = ap (λ b. cond {A = ℕ} b 1 0) (unmoved q ne) in
                  omega (arith, parts, one, single, same)
            ];
        forward = λ a in' n.
            elim (cases_eq t a.to) [
              | inl s ↦ subst (λ x. IsBefore (placed ++ t ∷ []) a.from x) s
                  (before_new placed a.from t (old a.from (ends a in').0 (ready a in' (sym s)))
                  (fresh t (subst (λ x. list_any (λ u. u == x) nodes ≡ true) (sym s) (ends a in').1) was_remaining))
              | inr ne ↦ before_more placed (t ∷ []) a.from a.to (p.forward a in' (sym (unmoved a.to ne) ∙ n))
            ];
      }
