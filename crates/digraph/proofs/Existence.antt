-- Each graph has an order of its nodes or a cycle.
use Rattle.std.proofs.Common.{◌≡◌, ◌⊎◌, ℕ, zero, suc, ◌+◌, ◌==◌, ◌<◌, ◌≤◌, Bool, true, false, not, ◌&&◌, ◌||◌, cond, List, [], ◌∷◌, ◌++◌, take, drop, length, Contains, refl, sym, ◌∙◌, ap, subst, arith, inl, inr, true≢false}
use Rattle.std.specs.List.{list_any, filter, AllByRecursion}
use Rattle.std.specs.Ordering.{nat_cmp, is_eq}
use Rattle.std.proofs.lemmas.Bool.{cases_Bool, and_parts, and_from, or_right, eqb-true, eq-eqb, both_ways}
use Rattle.std.proofs.lemmas.Cmp.{nat_eq_equiv}
use Rattle.std.proofs.lemmas.List.{get_or_default}
use Rattle.std.proofs.lemmas.List.Elements.{All-from_recursion}
use Rattle.std.proofs.lemmas.List.Folds.{Any-from_list_any, list_any-from_Any}
use Rattle.std.proofs.lemmas.Map.Views.{any-filter_same}
use Rattle.lemmas.proofs.Booleans.{not_and}
use Rattle.digraph.specs.declared.arc.Arc.{Arc}
use Rattle.digraph.specs.Clauses.Graphs.{IsGraph, IsTopologicalOrder, IsPath, IsCycle}
use Rattle.digraph.specs.Machinery.Placings.{Places}
use Rattle.digraph.proofs.Orders.{nothing_placed, one_placed, all_placed}
use Rattle.digraph.proofs.Cycles.{cycle_cut}
use Rattle.digraph.proofs.Sets.{is_eq_nat}

abbrev has : List ℕ → ℕ → Bool
has ts q = list_any (λ u. u == q) ts

abbrev without : ℕ → List ℕ → List ℕ
without t ts = filter (λ u. not (u == t)) ts

no_longer : (t : ℕ) (ts : List ℕ) → length (without t ts) ≤ length ts
no_longer t [] = omega arith
no_longer t (x ∷ ts) =
    let rest = no_longer t ts in
    elim (cases_Bool (x == t)) [
      | inl same ↦ let less = ap (λ b. length (cond (not b) (x ∷ without t ts) (without t ts))) same in
          omega (arith, rest, less)
      | inr other ↦ let kept = ap (λ b. length (cond (not b) (x ∷ without t ts) (without t ts))) other in
          omega (arith, rest, kept)
    ]

shorter : (t : ℕ) (ts : List ℕ) → has ts t ≡ true → length (without t ts) < length ts
shorter t [] e = absurd (true≢false (sym e))
shorter t (x ∷ ts) e =
    elim (cases_Bool (x == t)) [
      | inl same ↦
          let rest = no_longer t ts in
          let less = ap (λ b. length (cond (not b) (x ∷ without t ts) (without t ts))) same in
          omega (arith, rest, less)
      | inr other ↦
          let rest = shorter t ts (ap (λ b. b || has ts t) (sym other) ∙ e) in
          let kept = ap (λ b. length (cond (not b) (x ∷ without t ts) (without t ts))) other in
          omega (arith, rest, kept)
    ]

has_without : (t : ℕ) (ts : List ℕ) (q : ℕ) → has (without t ts) q ≡ cond (is_eq (nat_cmp t q)) false (has ts q)
has_without t ts q =
    any-filter_same (λ u. u == q) (λ u. not (u == t)) (not (t == q))
    (λ u e. ap not (ap (λ x. x == t) (eqb-true u q e) ∙ nat_eq_equiv.symm q t)) ts ∙
    (not_and (t == q) (has ts q) ∙ ap (λ b. cond b false (has ts q)) (sym (is_eq_nat t q)))

-- no remaining node comes before this one
abbrev IsStart : List Arc → (ℕ → Bool) → ℕ → Type 0
IsStart arcs remaining t = (a : Arc) → Contains arcs a → a.to ≡ t → remaining a.from ≡ false

-- an arc to the node from a remaining one
record FromRemaining (arcs : List Arc) (remaining : ℕ → Bool) (t : ℕ) : Type 0 where
  pub arc : Arc
  pub there : Contains arcs arc
  pub to : arc.to ≡ t
  pub from_remaining : remaining arc.from ≡ true

predecessor : (arcs : List Arc) (remaining : ℕ → Bool) (t : ℕ) → FromRemaining arcs remaining t ⊎ IsStart arcs remaining t
predecessor arcs remaining t =
    let test : Arc → Bool = λ a. (a.to == t) && remaining a.from in
    elim (cases_Bool (list_any test arcs)) [
      | inl e ↦
          let found = Any-from_list_any test arcs e in
          let both = and_parts _ _ found.4 in
          inl record {
            arc = found.1;
            there = (found.0, found.2, found.3);
            to = eqb-true _ _ both.0;
            from_remaining = both.1;
          }
      | inr none ↦ inr (λ a there to.
          elim (cases_Bool (remaining a.from)) [
            | inl l ↦
                let passes = and_from _ _ (eq-eqb a.to t to) l in
                absurd (both_ways _ none (list_any-from_Any test arcs (there.0, a, there.1, there.2, passes)))
            | inr f ↦ f
          ])
    ]

abbrev HasCycle : List Arc → Type 0
HasCycle arcs = (path : List Arc) × IsCycle arcs path

-- a walk backward over remaining nodes, each of which is unmet or has an arc of the trail to it
record IsTrail (arcs : List Arc) (remaining : ℕ → Bool) (unmet : List ℕ) (trail : List Arc) (from at : ℕ) : Type 0 where
  pub is_remaining : remaining at ≡ true
  pub path : IsPath at trail from
  pub known : AllByRecursion (Contains arcs) trail
  pub met : (q : ℕ) → remaining q ≡ true → has unmet q ≡ false → list_any (λ a. a.to == q) trail ≡ true

module _ (arcs : List Arc) (remaining : ℕ → Bool) where
  abbrev Ends : Type 0
  Ends = ((t : ℕ) × (remaining t ≡ true) × IsStart arcs remaining t) ⊎ HasCycle arcs

  closed : (unmet : List ℕ) (trail : List Arc) (from at : ℕ) → IsTrail arcs remaining unmet trail from at
      → has unmet at ≡ false → HasCycle arcs
  closed unmet trail from at w e =
      let back = Any-from_list_any (λ a. a.to == at) trail (w.met at w.is_remaining e) in
      let cut = take (back.0 + 1) trail in (
        drop 0 cut ++ take 0 cut,
        cycle_cut arcs trail cut (drop 0 cut ++ take 0 cut) at back.0 0 (from, w.path)
            (All-from_recursion (Contains arcs) trail w.known) back.2
            (λ d. ap (λ (a : Arc). a.to) (get_or_default trail back.0 d back.1 back.2 ∙ back.3) ∙ eqb-true _ _ back.4)
            refl refl,
      )

  longer : (unmet : List ℕ) (trail : List Arc) (from at : ℕ) → IsTrail arcs remaining unmet trail from at
      → (p : FromRemaining arcs remaining at) → IsTrail arcs remaining (without at unmet) (p.arc ∷ trail) from p.arc.from
  longer unmet trail from at w p = record {
    is_remaining = p.from_remaining;
    path = (refl, subst (λ x. IsPath x trail from) (sym p.to) w.path);
    known = (p.there, w.known);
    met = λ q l n.
        elim (cases_Bool (at == q)) [
          | inl same ↦
              let here = eq-eqb p.arc.to q (p.to ∙ eqb-true at q same) in
              ap (λ b. b || list_any (λ a. a.to == q) trail) here
          | inr other ↦
              let apart = is_eq_nat at q ∙ other in
              let still = ap (λ b. cond b false (has unmet q)) (sym apart) ∙ (sym (has_without at unmet q) ∙ n) in
              or_right (p.arc.to == q) _ (w.met q l still)
        ];
  }

  back : (n : ℕ) (unmet : List ℕ) (trail : List Arc) (from at : ℕ) → length unmet ≤ n
      → IsTrail arcs remaining unmet trail from at → Ends
  back zero [] trail from at l w = inr (closed [] trail from at w refl)
  back zero (u ∷ unmet) trail from at l w = absurd (omega (arith, l))
  back (suc n) unmet trail from at l w =
      elim (cases_Bool (has unmet at)) [
        | inr e ↦ inr (closed unmet trail from at w e)
        | inl e ↦
            elim (predecessor arcs remaining at) [
              | inr none ↦ inl (at, w.is_remaining, none)
              | inl p ↦
                  let less = shorter at unmet e in
                  back n (without at unmet) (p.arc ∷ trail) from p.arc.from (omega (arith, less, l))
                  (longer unmet trail from at w p)
            ]
      ]

module _ (nodes : List ℕ) (arcs : List Arc) (ends : IsGraph nodes arcs) where
  abbrev IsSorted : Type 0
  IsSorted = ((ts : List ℕ) × IsTopologicalOrder nodes arcs ts) ⊎ HasCycle arcs

  start_or_cycle : (remaining : List ℕ) (t : ℕ) → has remaining t ≡ true → Ends arcs (has remaining)
  start_or_cycle remaining t e =
      back arcs (has remaining) (length remaining) remaining [] t t (omega arith)
      (record { is_remaining = e; path = refl; known = tt; met = λ q l n. absurd (both_ways _ n l) })

  place_rest : (n : ℕ) (remaining placed : List ℕ) → length remaining ≤ n → Places nodes placed arcs (has remaining) → IsSorted
  place_rest n [] placed l p = inl (placed, all_placed nodes arcs ends (has []) placed p (λ q. refl))
  place_rest zero (t ∷ remaining) placed l p = absurd (omega (arith, l))
  place_rest (suc n) (t ∷ remaining) placed l p =
      let all = t ∷ remaining in
      let here : has all t ≡ true = ap (λ b. b || has remaining t) (eq-eqb t t refl) in
      elim (start_or_cycle all t here) [
        | inr cycle ↦ inr cycle
        | inl start ↦
            let less = shorter start.0 all start.1 in
            place_rest n (without start.0 all) (placed ++ start.0 ∷ []) (omega (arith, less, l))
            (one_placed nodes arcs ends (has all) (has (without start.0 all)) placed start.0 p start.1 start.2
            (has_without start.0 all))
      ]

  pub sorted_or_cyclic : IsSorted
  sorted_or_cyclic =
      place_rest (length nodes) nodes [] (omega arith) (nothing_placed nodes arcs ends (has nodes) (λ q. refl))
