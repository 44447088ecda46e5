-- A quiet moment of a snapshot history: each transaction has committed by then, or begins after it. Then an order in which the
-- history is accepted stays one if the earlier transactions are put first.
use Rattle.std.proofs.Common.{◌≡◌, ℕ, ◌<◌, ◌≤◌, ◌⊎◌, Bool, true, false, cond, not, List, ◌++◌, length, ◌∙◌, ap, arith, inl, inr}
use Rattle.std.specs.Prelude.{filter}
use Rattle.std.proofs.lemmas.Bool.{cases_Bool, not_from_false, not_from_true}
use Rattle.lemmas.proofs.Counts.{count, count-append}
use Rattle.adya_values.specs.Meaning.Events.{is_committed}
use Rattle.adya_values.specs.Meaning.Histories.{History}
use Rattle.adya_values.specs.Meaning.Orders.{place}
use Rattle.adya_values.specs.Meaning.Edges.{Edge, IsEdge}
use Rattle.adya_values.specs.Clauses.Acceptance.{IsChecked, IsAccepted, IsBefore}
use Rattle.adya_values.proofs.Places.{place_in}
use Rattle.snapshot_histories.specs.Clauses.Snapshots.{stamp_in, IsSnapshotHistory}
use Rattle.snapshot_histories.proofs.Commits.{committed_ends}
use Rattle.snapshot_histories.proofs.Cycles.{step}
use Rattle.ssi_segments.proofs.Parts.{filter_counts, filter_places, place_first, place_second}

-- those before the moment are the ones that pass the test
pub record IsQuiet (h : History) (snapshot_of : ℕ → ℕ) (is_early : ℕ → Bool) (limit : ℕ) : Type 0 where
  pub checked : IsChecked h
  pub snapshots : IsSnapshotHistory h snapshot_of
  pub early : (t : ℕ) → is_committed h.events t ≡ true → is_early t ≡ true → stamp_in h t ≤ limit
  pub late : (t : ℕ) → is_committed h.events t ≡ true → is_early t ≡ false → limit ≤ snapshot_of t

module _ (is_early : ℕ → Bool) where
  abbrev pub earlier : List ℕ → List ℕ
  earlier ts = filter is_early ts

  abbrev pub later : List ℕ → List ℕ
  later ts = filter (λ t. not (is_early t)) ts

module _ (h : History) (snapshot_of : ℕ → ℕ) (is_early : ℕ → Bool) (limit : ℕ) (quiet : IsQuiet h snapshot_of is_early limit) where
  no_edge_back : (e : Edge) → IsEdge h e → is_early e.from ≡ false → is_early e.to ≡ true → ⊥
  no_edge_back e is from to =
      let ends = committed_ends h quiet.checked e.kind e.key e.from e.to is.1 in
      let above = quiet.late e.from ends.0 from in
      let below = quiet.early e.to ends.1 to in
      let began = quiet.snapshots.begins_first e.from ends.0 in
      let also = quiet.snapshots.begins_first e.to ends.1 in
      elim (step h snapshot_of quiet.checked quiet.snapshots e.kind e.key e.from e.to is.0 is.1) [
        | inl first ↦ omega (arith, above, below, began, also, first)
        | inr both ↦ (let before = both.1.begins_before in omega (arith, above, below, before))
      ]

  module _ (ts : List ℕ) (a : IsAccepted h ts) where
    one : (t : ℕ) → is_committed h.events t ≡ true → count ts t ≡ 1
    one t c = a.committed_once t ∙ ap (λ b. cond b 1 0) c

    in_early : (t : ℕ) → is_committed h.events t ≡ true → is_early t ≡ true → 0 < count (earlier is_early ts) t
    in_early t c e =
        let there = filter_counts is_early ts t true e in
        let once = one t c in
        omega (arith, there, once)

    not_in_early : (t : ℕ) → is_early t ≡ false → count (earlier is_early ts) t ≡ 0
    not_in_early t e = filter_counts is_early ts t false e

    forward : (e : Edge) → IsEdge h e → IsBefore (earlier is_early ts ++ later is_early ts) e.from e.to
    forward e is = by_sides (cases_Bool (is_early e.from)) (cases_Bool (is_early e.to))
      where
        ends : (is_committed h.events e.from ≡ true) × (is_committed h.events e.to ≡ true)
        ends = committed_ends h quiet.checked e.kind e.key e.from e.to is.1

        by_sides : (is_early e.from ≡ true) ⊎ (is_early e.from ≡ false) → (is_early e.to ≡ true) ⊎ (is_early e.to ≡ false)
            → IsBefore (earlier is_early ts ++ later is_early ts) e.from e.to
        by_sides (inl from) (inl to) =
            let one = place_first (earlier is_early ts) (later is_early ts) e.from (in_early e.from ends.0 from) in
            let two = place_first (earlier is_early ts) (later is_early ts) e.to (in_early e.to ends.1 to) in
            let less = filter_places is_early ts e.from e.to from to (a.forward e is) in
            omega (arith, one, two, less)
        by_sides (inl from) (inr to) =
            let one = place_first (earlier is_early ts) (later is_early ts) e.from (in_early e.from ends.0 from) in
            let two = place_second (earlier is_early ts) (later is_early ts) e.to (not_in_early e.to to) in
            let within = place_in (earlier is_early ts) e.from (in_early e.from ends.0 from) in
            omega (arith, one, two, within)
        by_sides (inr from) (inl to) = absurd (no_edge_back e is from to)
        by_sides (inr from) (inr to) =
            let one = place_second (earlier is_early ts) (later is_early ts) e.from (not_in_early e.from from) in
            let two = place_second (earlier is_early ts) (later is_early ts) e.to (not_in_early e.to to) in
            let less = filter_places (λ t. not (is_early t)) ts e.from e.to (not_from_false (is_early e.from) from)
            (not_from_false (is_early e.to) to) (a.forward e is) in
            omega (arith, one, two, less)

    both_counts : (t : ℕ) → count (earlier is_early ts ++ later is_early ts) t ≡ count ts t
    both_counts t =
        let sum = count-append (earlier is_early ts) (later is_early ts) t in
        elim (cases_Bool (is_early t)) [
          | inl early ↦
              let here = filter_counts is_early ts t true early in
              let none = filter_counts (λ u. not (is_early u)) ts t false (not_from_true (is_early t) early) in
              omega (arith, sum, here, none)
          | inr late ↦
              let none = filter_counts is_early ts t false late in
              let here = filter_counts (λ u. not (is_early u)) ts t true (not_from_false (is_early t) late) in
              omega (arith, sum, here, none)
        ]

    pub in_two_parts : IsAccepted h (earlier is_early ts ++ later is_early ts)
    in_two_parts = record {
      checked = a.checked;
      committed_once = λ t. both_counts t ∙ a.committed_once t;
      forward = forward;
    }

    -- the place says in which part a transaction stands
    pub early_place : (t : ℕ) → is_committed h.events t ≡ true → is_early t ≡ true
        → place (earlier is_early ts ++ later is_early ts) t < length (earlier is_early ts)
    early_place t c e =
        let same = place_first (earlier is_early ts) (later is_early ts) t (in_early t c e) in
        let within = place_in (earlier is_early ts) t (in_early t c e) in
        omega (arith, same, within)

    pub place_early : (t : ℕ) → place (earlier is_early ts ++ later is_early ts) t < length (earlier is_early ts)
        → is_early t ≡ true
    place_early t l =
        elim (cases_Bool (is_early t)) [
          | inl early ↦ early
          | inr late ↦ absurd (
              let far = place_second (earlier is_early ts) (later is_early ts) t (not_in_early t late) in
              omega (arith, l, far))
        ]
