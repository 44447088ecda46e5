-- Orders that are checked as a whole.
use Rattle.std.proofs.Common.{◌≡◌, ℕ, zero, suc, ◌+◌, ◌==◌, ◌<◌, ◌≤◌, Bool, true, false, cond, List, [], ◌∷◌, length, take, get_or, slice_index_or, count_by, Contains, true≢false, sym, ◌∙◌, ap, subst, arith, inl, inr}
use Rattle.std.proofs.lemmas.Bool.{eq-eqb, ne_eqb, cases_eq, cases_lt, cond-true, cond-false}
use Rattle.std.proofs.lemmas.List.{get_or_default}
use Rattle.std.proofs.lemmas.List.Sums.{count_by_more_yes, count_by_more_no}
use Rattle.std.specs.List.{list_any}
use Rattle.lemmas.proofs.Counts.{count, count-cons, count_same, count_other}
use Rattle.digraph.specs.declared.arc.Arc.{Arc}
use Rattle.digraph.specs.Clauses.Graphs.{place, IsBefore}
use Rattle.digraph.specs.Machinery.Placings.{Places, StandsForward, KeepsOrder}
use Rattle.digraph.proofs.Orders.{place_same, place_other}

-- a node that is removed from the set counts in the list
pub one_removed : (ts : List ℕ) (i : ℕ) (was now : ℕ → Bool) → i < length ts → was (get_or ts i 0) ≡ true
    → ((q : ℕ) → now q ≡ cond (get_or ts i 0 == q) false (was q)) → (q : ℕ)
    → count_by (λ u. u == q) (take (i + 1) ts) + cond (now q) 1 0 ≡ count_by (λ u. u == q) (take i ts) + cond (was q) 1 0
one_removed ts i was now within there up q =
    let t = get_or ts i 0 in
    elim (cases_eq t q) [
      | inl e ↦
          let more = count_by_more_yes (λ u. u == q) ts i 0 within (eq-eqb t q e) in
          let gone = up q ∙ cond-true {A = Bool} (t == q) false (was q) (eq-eqb t q e) in
          let now' = cond-false {A = ℕ} (now q) 1 0 gone in
          let was' = cond-true {A = ℕ} (was q) 1 0 (subst (λ x. was x ≡ true) e there) in
          omega (arith, more, now', was')
      | inr ne ↦
          let more = count_by_more_no (λ u. u == q) ts i 0 within (ne_eqb t q ne) in
          let left = up q ∙ cond-false {A = Bool} (t == q) false (was q) (ne_eqb t q ne) in
          let same = ap (λ b. cond {A = ℕ} b 1 0) left in
          omega (arith, more, same)
    ]

-- what holds of each arc so far, and of the next one
pub one_kept : (arcs : List Arc) (P : Arc → Type 0) (i : ℕ) (b : Arc)
    → ((k : ℕ) (d : Arc) → k < i → k < length arcs → P (slice_index_or arcs k d)) → i < length arcs
    → P (slice_index_or arcs i b) → (k : ℕ) (d : Arc) → k < i + 1 → k < length arcs → P (slice_index_or arcs k d)
one_kept arcs P i b all within here k d l m =
    elim (cases_lt k i) [
      | inl below ↦ all k d below m
      | inr above ↦
          let same : k ≡ i = omega arith in
          subst P (get_or_default arcs i b d within ∙ ap (λ j. slice_index_or arcs j d) (sym same)) here
    ]

-- what stands somewhere in a list has its first place there or before
place_at_most : (ts : List ℕ) (i t : ℕ) → i < length ts → get_or ts i 0 ≡ t → place ts t ≤ i
place_at_most [] i t l at = absurd (omega arith)
place_at_most (x ∷ ts) zero t l at = let first = place_same x ts t at in omega (arith, first)
place_at_most (x ∷ ts) (suc i) t l at =
    let rest = place_at_most ts i t (omega (arith, l)) at in
    elim (cases_eq x t) [
      | inl e ↦ let first = place_same x ts t e in omega (arith, first)
      | inr ne ↦ let next = place_other x ts t ne in omega (arith, next, rest)
    ]

counted_at : (ts : List ℕ) (i t : ℕ) → i < length ts → get_or ts i 0 ≡ t → 0 < count ts t
counted_at [] i t l at = absurd (omega arith)
counted_at (x ∷ ts) zero t l at = let first = count_same x ts t at in omega (arith, first)
counted_at (x ∷ ts) (suc i) t l at =
    let rest = counted_at ts i t (omega (arith, l)) at in
    let more = count-cons x ts t in
    omega (arith, rest, more)

-- what stands once in a list has no place before
place_at_least : (ts : List ℕ) (i t : ℕ) → i < length ts → get_or ts i 0 ≡ t → count ts t ≤ 1 → i ≤ place ts t
place_at_least [] i t l at once = absurd (omega arith)
place_at_least (x ∷ ts) zero t l at once = omega arith
place_at_least (x ∷ ts) (suc i) t l at once =
    elim (cases_eq x t) [
      | inl e ↦
          let twice = count_same x ts t e in
          let rest = counted_at ts i t (omega (arith, l)) at in
          absurd (omega (arith, twice, rest, once))
      | inr ne ↦
          let same = count_other x ts t ne in
          let next = place_other x ts t ne in
          let rest = place_at_least ts i t (omega (arith, l)) at (omega (arith, same, once)) in
          omega (arith, next, rest)
    ]

goes_forward : (ts : List ℕ) (a : Arc) → count ts a.to ≤ 1 → StandsForward ts a → IsBefore ts a.from a.to
goes_forward ts a once s =
    let rises = s.rises in
    let within = s.within in
    let from = place_at_most ts s.from_place a.from (omega (arith, rises, within)) s.from_there in
    let to = place_at_least ts s.to_place a.to within s.to_there once in
    omega (arith, rises, from, to)

-- nodes that were removed one after the other, with all arcs looked at
pub all_removed : (nodes : List ℕ) (arcs : List Arc) (was now : ℕ → Bool) (ts : List ℕ)
    → ((q : ℕ) → was q ≡ list_any (λ u. u == q) nodes)
    → ((q : ℕ) → count_by (λ u. u == q) ts + cond (now q) 1 0 ≡ cond (was q) 1 0)
    → ((a : Arc) → Contains arcs a → KeepsOrder ts now a) → Places nodes ts arcs now
all_removed nodes arcs was now ts all counts keep =
    let one : (q : ℕ) → count ts q ≤ 1 = λ q.
    let sum = counts q in
    elim (was q) as (λ b. count ts q + cond (now q) 1 0 ≡ cond b 1 0 → count ts q ≤ 1) [
      | true ↦ λ s. omega (arith, s)
      | false ↦ λ s. omega (arith, s)
    ] sum in
    record {
      once = λ q. counts q ∙ ap (λ b. cond {A = ℕ} b 1 0) (all q);
      forward = λ a here gone.
          elim (keep a here) [
            | inl s ↦ goes_forward ts a (one a.to) s
            | inr still ↦ absurd (true≢false (sym still ∙ gone))
          ];
    }

-- the same of a set with the same nodes
pub same_remaining : (nodes : List ℕ) (arcs : List Arc) (was now : ℕ → Bool) (ts : List ℕ) → ((q : ℕ) → now q ≡ was q)
    → Places nodes ts arcs was → Places nodes ts arcs now
same_remaining nodes arcs was now ts same p = record {
  once = λ q. ap (λ b. count ts q + cond {A = ℕ} b 1 0) (same q) ∙ p.once q;
  forward = λ a here gone. p.forward a here (sym (same a.to) ∙ gone);
}
