-- Each order that explains a history respects all precedences.
use Rattle.std.proofs.Common.{ℕ, List, ◌∷◌, Contains, ◌∙◌, ap, subst, arith, inl, inr}
use Rattle.std.specs.List.{flat_map}
use Rattle.std.proofs.lemmas.Bool.{cases_eq}
use Rattle.std.proofs.lemmas.List.Concat.{flat_map-append}
use Rattle.std.proofs.lemmas.List.Elements.{Contains-append_left}
use Rattle.lemmas.proofs.Members.{flat_map-source, Contains-flat_map}
use Rattle.lemmas.proofs.Counts.{count, count_contained, Contains-counted}
use Rattle.append_values.specs.Meaning.Histories.{History}
use Rattle.append_values.specs.Meaning.Runs.{Explains}
use Rattle.append_values.specs.Meaning.Reads.{appended, own, AppendersDiffer, IsPrefixOf}
use Rattle.append_values.specs.Meaning.Reasons.{WriteRead, WriteWrite, ReadWrite, Precedes, HasNoOrder}
use Rattle.append_laws.proofs.Prefixes.{both_begin, prefix_more, prefix_contains}
use Rattle.append_laws.proofs.Places.{IsAt, at_contained, before_at, after_at}
use Rattle.append_laws.proofs.Fronts.{placed, read_begins, source}
use Rattle.digraph.specs.declared.arc.Arc.{Arc}
use Rattle.digraph.specs.Clauses.Graphs.{IsBefore, IsCycle}
use Rattle.digraph.specs.Laws.{CycleExcludesOrder}

module _ (h : History) (ts : List ℕ) (differ : AppendersDiffer h) (ex : Explains ts h) where
  write_read : (u v : ℕ) → WriteRead h u v → IsBefore ts u v
  write_read u v d =
      let p = placed h ts v d.key d.elements d.before ex d.read in
      elim (source h v d.key d.elements d.before p.front d.read p.shows d.element d.seen) [
        | inl w ↦
            let same = differ d.key d.element w.0 u w.2 d.is_of in
            before_at ts p.front p.back v p.splits p.first u (count_contained p.front u (subst (Contains p.front) same w.1))
        | inr mine ↦ absurd (d.differ (differ d.key d.element u v d.is_of mine))
      ]

  read_write : (u v : ℕ) → ReadWrite h u v → IsBefore ts u v
  read_write u v d =
      let p = placed h ts u d.key d.elements d.before ex d.read in
      elim (cases_eq (count p.front v) 0) [
        | inl none ↦ after_at ts p.front p.back u p.splits p.first v none d.differ
        | inr some ↦
            let there = Contains-counted p.front v (omega (arith, some)) in
            absurd (d.unseen (subst (λ ys. Contains ys d.element) p.shows
            (Contains-append_left (flat_map (own h d.key) p.front) (appended d.key d.before) d.element
            (Contains-flat_map (own h d.key) p.front v d.element there d.is_of))))
      ]

  -- what the transactions of a front appended begins the list that the whole order makes
  front_begins : (k u : ℕ) (p : IsAt ts u) → IsPrefixOf (flat_map (own h k) p.front) (flat_map (own h k) ts)
  front_begins k u p =
      (flat_map (own h k) (u ∷ p.back), ap (flat_map (own h k)) p.splits ∙ flat_map-append (own h k) p.front (u ∷ p.back))

  write_write : (u v : ℕ) → WriteWrite h u v → IsBefore ts u v
  write_write u v d =
      let whole = flat_map (own h d.key) ts in
      let begins : IsPrefixOf d.part whole = prefix_more d.part d.elements whole d.begins
      (read_begins h ts d.reader d.key d.elements d.before ex d.read) in
      let w = flat_map-source (own h d.key) ts d.element (prefix_contains d.part whole d.element begins d.seen) in
      let there : Contains ts u = subst (Contains ts) (differ d.key d.element w.0 u w.2 d.is_of) w.1 in
      let p = at_contained ts u there in
      let early = flat_map (own h d.key) p.front in
      elim (cases_eq (count p.front v) 0) [
        | inl none ↦ after_at ts p.front p.back u p.splits p.first v none d.differ
        | inr some ↦
            let sooner : Contains early d.later = Contains-flat_map (own h d.key) p.front v d.later
            (Contains-counted p.front v (omega (arith, some))) d.later_is_of in
            elim (both_begin d.part early whole begins (front_begins d.key u p)) [
              | inl short ↦
                  let z = flat_map-source (own h d.key) p.front d.element (prefix_contains d.part early d.element short d.seen) in
                  let again : Contains p.front u = subst (Contains p.front) (differ d.key d.element z.0 u z.2 d.is_of) z.1 in
                  let counted = count_contained p.front u again in
                  let first = p.first in
                  absurd (omega (arith, counted, first))
              | inr long ↦ absurd (d.unseen (prefix_contains early d.part d.later long sooner))
            ]
      ]

  pub necessary : (u v : ℕ) → Precedes h u v → IsBefore ts u v
  necessary u v (inl d) = write_read u v d
  necessary u v (inr (inl d)) = write_write u v d
  necessary u v (inr (inr d)) = read_write u v d

pub cycle_refutes : CycleExcludesOrder → (h : History) (arcs path : List Arc) → AppendersDiffer h
    → ((a : Arc) → Contains arcs a → Precedes h a.from a.to) → IsCycle arcs path → HasNoOrder h
cycle_refutes excludes h arcs path differ all cycle ts ex =
    excludes arcs path cycle ts (λ a there. necessary h ts differ ex a.from a.to (all a there))
