-- The first edges along arcs: one more edge in a pass, and what the edges of a cycle are.
use Rattle.std.proofs.Common.{◌≡◌, ℕ, ◌+◌, ◌<◌, ◌==◌, true, false, ◌&&◌, cond, List, [], ◌∷◌, ◌++◌, map, take, get_or, length, Contains, Option, Some, None, is_some, option_map, append_assoc, refl, sym, ◌∙◌, ap, inl, inr, Ordering, Less, Equal, Greater}
use Rattle.std.specs.List.{list_any, AllByRecursion}
use Rattle.std.specs.Option.{option_or}
use Rattle.std.specs.BTreeMap.{BTreeMap, get}
use Rattle.std.specs.Ordering.{is_eq, nat_cmp, ordering_then}
use Rattle.std.proofs.lemmas.Bool.{cases_Bool, and_parts, and_from, eq-eqb, eqb-true, both_ways}
use Rattle.std.proofs.lemmas.List.{take_more, map-append}
use Rattle.std.proofs.lemmas.List.Folds.{find-append}
use Rattle.std.specs.Cmp.{unsigned_ties}
use Rattle.lemmas.proofs.Options.{none_unless_some, option_or-none, option_or-some}
use Rattle.lemmas.proofs.Finds.{find-source, find_when}
use Rattle.lemmas.proofs.Tests.{list_any_when}
use Rattle.adya_values.specs.Meaning.Edges.{Edge}
use Rattle.digraph.specs.declared.arc.Arc.{Arc}
use Rattle.adya_dsg.specs.declared.edge.Edge.{Edge as EdgeValue}
use Rattle.adya_dsg.specs.Machinery.Along.{joins, first_along, ends_cmp}
use Rattle.adya_dsg.specs.Machinery.Arcs.{ends}
use Rattle.adya_dsg.specs.Mirror.{edge_of}

abbrev arc : ℕ → ℕ → Arc
arc s t = record { from = s; to = t }

-- an edge with the ends of the arc
pub ends_equal : (e : Edge) (a : Arc) → e.from ≡ a.from → e.to ≡ a.to → ends e ≡ a
ends_equal e a from to = ap (λ s. arc s e.to) from ∙ ap (arc a.from) to

then_is_eq : (o p : Ordering) → is_eq (ordering_then o p) ≡ (is_eq o && is_eq p)
then_is_eq Less p = refl
then_is_eq Equal p = refl
then_is_eq Greater p = refl

-- the map's order tells apart what has other ends
pub ends_tied : (p q : ℕ × ℕ) → is_eq (ends_cmp p q) ≡ ((p.0 == q.0) && (p.1 == q.1))
ends_tied p q =
    then_is_eq (nat_cmp p.0 q.0) (nat_cmp p.1 q.1) ∙
    (ap (λ b. b && is_eq (nat_cmp p.1 q.1)) (sym (unsigned_ties p.0 q.0)) ∙
    ap (λ b. (p.0 == q.0) && b) (sym (unsigned_ties p.1 q.1)))

joins_by_order : (a : Arc) (e : EdgeValue) → is_eq (ends_cmp (e.from, e.to) (a.from, a.to)) ≡ joins a (edge_of e)
joins_by_order a e = ends_tied (e.from, e.to) (a.from, a.to)

joined_ends : (a : Arc) (e : Edge) → joins a e ≡ true → (e.from ≡ a.from) × (e.to ≡ a.to)
joined_ends a e j =
    let both = and_parts _ _ j in
    (eqb-true _ _ both.0, eqb-true _ _ both.1)

abbrev pair_of : ℕ → ℕ → ℕ × ℕ
pair_of s t = (s, t)

same_ends : (a : Arc) (e : Edge) → joins a e ≡ true → pair_of e.from e.to ≡ pair_of a.from a.to
same_ends a e j =
    let both = joined_ends a e j in
    ap (λ s. pair_of s e.to) both.0 ∙ ap (pair_of a.from) both.1

pub is_some-option_map : {X Y : Type 0} (f : X → Y) (o : Option X) → is_some (option_map f o) ≡ is_some o
is_some-option_map f None = refl
is_some-option_map f (Some x) = refl

module _ (es : List Edge) (e : EdgeValue) (a : Arc) (m : BTreeMap (ℕ × ℕ) EdgeValue)
    (had : option_map edge_of (get ends_cmp m (a.from, a.to)) ≡ first_along es a) where
  one_more : first_along (es ++ edge_of e ∷ []) a
      ≡ option_or (option_map edge_of (get ends_cmp m (a.from, a.to))) (cond (joins a (edge_of e)) (Some (edge_of e)) None)
  one_more =
      find-append (joins a) es (edge_of e ∷ []) ∙
      ap (λ o. option_or o (cond (joins a (edge_of e)) (Some (edge_of e)) None)) (sym had)

  unjoined : joins a (edge_of e) ≡ false
      → option_map edge_of (get ends_cmp m (a.from, a.to)) ≡ first_along (es ++ edge_of e ∷ []) a
  unjoined j =
      sym (one_more ∙
      (ap (λ b. option_or (option_map edge_of (get ends_cmp m (a.from, a.to))) (cond b (Some (edge_of e)) None)) j ∙
      option_or-none (option_map edge_of (get ends_cmp m (a.from, a.to)))))

  -- the edge's ends aren't those of an arc of the cycle
  pub unwanted : (cycle : List Arc) → Contains cycle a → list_any (λ x. (x.from == e.from) && (x.to == e.to)) cycle ≡ false
      → option_map edge_of (get ends_cmp m (a.from, a.to)) ≡ first_along (es ++ edge_of e ∷ []) a
  unwanted cycle there none =
      elim (cases_Bool (joins a (edge_of e))) [
        | inr j ↦ unjoined j
        | inl j ↦
            let both = joined_ends a (edge_of e) j in
            let passes = and_from _ _ (eq-eqb a.from e.from (sym both.0)) (eq-eqb a.to e.to (sym both.1)) in
            absurd (both_ways _ none (list_any_when (λ (x : Arc). (x.from == e.from) && (x.to == e.to)) cycle a there passes))
      ]

  -- the map has an edge with these ends
  pub had_before : is_some (get ends_cmp m (pair_of e.from e.to)) ≡ true
      → option_map edge_of (get ends_cmp m (a.from, a.to)) ≡ first_along (es ++ edge_of e ∷ []) a
  had_before some =
      elim (cases_Bool (joins a (edge_of e))) [
        | inr j ↦ unjoined j
        | inl j ↦
            let o = get ends_cmp m (a.from, a.to) in
            let here = is_some-option_map edge_of o ∙ (ap (λ p. is_some (get ends_cmp m p)) (sym (same_ends a (edge_of e) j)) ∙ some) in
            sym (one_more ∙ option_or-some (option_map edge_of o) (cond (joins a (edge_of e)) (Some (edge_of e)) None) here)
      ]

  -- the edge is the first with its ends
  pub noted : is_some (get ends_cmp m (pair_of e.from e.to)) ≡ false → (new : Option EdgeValue)
      → new ≡ cond (is_eq (ends_cmp (e.from, e.to) (a.from, a.to))) (Some e) (get ends_cmp m (a.from, a.to))
      → option_map edge_of new ≡ first_along (es ++ edge_of e ∷ []) a
  noted none new is =
      elim (cases_Bool (joins a (edge_of e))) [
        | inr j ↦
            ap (option_map edge_of)
            (is ∙ ap (λ b. cond b (Some e) (get ends_cmp m (a.from, a.to))) (joins_by_order a e ∙ j)) ∙ unjoined j
        | inl j ↦
            let was = none_unless_some _ (ap (λ p. is_some (get ends_cmp m p)) (sym (same_ends a (edge_of e) j)) ∙ none) in
            ap (option_map edge_of)
            (is ∙ ap (λ b. cond b (Some e) (get ends_cmp m (a.from, a.to))) (joins_by_order a e ∙ j)) ∙
            sym (one_more ∙
            (ap (λ o. option_or (option_map edge_of o) (cond (joins a (edge_of e)) (Some (edge_of e)) None)) was ∙
            ap (λ b. cond b (Some (edge_of e)) None) j))
      ]

-- if an edge has the ends, a first one is found
pub first_found : (es : List Edge) (a : Arc) (e : Edge) → Contains es e → ends e ≡ a → is_some (first_along es a) ≡ true
first_found es a e there same =
    let passes = and_from _ _ (eq-eqb e.from a.from (ap (λ (y : Arc). y.from) same))
    (eq-eqb e.to a.to (ap (λ (y : Arc). y.to) same)) in
    ap is_some (find_when (joins a) es e there passes).1

-- the first edges along the arcs have their ends
pub first_edges_along : (es along : List Edge) (cycle : List Arc) → map Some along ≡ map (first_along es) cycle
    → (map ends along ≡ cycle) × AllByRecursion (Contains es) along
first_edges_along es [] [] f = (refl, tt)
first_edges_along es [] (a ∷ cycle) f = absurd (cc (f))
first_edges_along es (e ∷ along) [] f = absurd (cc (f))
first_edges_along es (e ∷ along) (a ∷ cycle) f =
    let here : first_along es a ≡ Some e = cc (f) in
    let on : map Some along ≡ map (first_along es) cycle = cc (f) in
    let is = find-source (joins a) es e here in
    let both = joined_ends a e is.1 in
    let rest = first_edges_along es along cycle on in (
      ap (λ x. x ∷ map ends along) (ends_equal e a both.0 both.1) ∙ ap (λ xs. a ∷ xs) rest.0,
      (is.0, rest.1),
    )

-- one more first edge
pub along_more : (es : List Edge) (along : List EdgeValue) (cycle : List Arc) (i : ℕ) (d : Arc) (e : EdgeValue)
    → i < length cycle → first_along es (get_or cycle i d) ≡ Some (edge_of e)
    → map Some (map edge_of along) ≡ map (first_along es) (take i cycle)
    → map Some (map edge_of (along ++ e ∷ [])) ≡ map (first_along es) (take (i + 1) cycle)
along_more es along cycle i d e l here was =
    ap (map Some) (map-append edge_of along (e ∷ [])) ∙
    (map-append Some (map edge_of along) (edge_of e ∷ []) ∙
    (ap (λ xs. xs ++ Some (edge_of e) ∷ []) was ∙
    (ap (λ o. map (first_along es) (take i cycle) ++ o ∷ []) (sym here) ∙
    (sym (map-append (first_along es) (take i cycle) (get_or cycle i d ∷ [])) ∙
    ap (map (first_along es)) (sym (take_more cycle i d l))))))

-- one more edge of a list that follows others
pub front_more : (before : List Edge) (edges : List EdgeValue) (i : ℕ) (e : EdgeValue) → i < length edges
    → e ≡ get_or edges i e
    → before ++ map edge_of (take (i + 1) edges) ≡ (before ++ map edge_of (take i edges)) ++ edge_of e ∷ []
front_more before edges i e l at =
    ap (λ zs. before ++ map edge_of zs) (take_more edges i e l) ∙
    (ap (λ zs. before ++ zs) (map-append edge_of (take i edges) (get_or edges i e ∷ [])) ∙
    (ap (λ x. before ++ (map edge_of (take i edges) ++ edge_of x ∷ [])) (sym at) ∙
    sym (append_assoc before (map edge_of (take i edges)) (edge_of e ∷ []))))
