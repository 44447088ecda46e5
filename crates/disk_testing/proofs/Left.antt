-- What a crash may leave after a write, of a file that is kept in memory.
use Rattle.std.proofs.Common.{◌≡◌, ◌⊎◌, inl, inr, ℕ, zero, suc, ◌+◌, ◌-◌, ◌<◌, ◌≤◌, min, List, [], ◌∷◌, length, slice_index, refl, sym, ◌∙◌, ap, arith}
use Rattle.std.proofs.lemmas.Bool.{cases_lt}
use Rattle.sqlite_disk.specs.Disk.{Follows, Mixed, Torn}
use Rattle.disk_testing.specs.Leaving.{MayLeave}

-- a list of bytes, each of which is as it should be at its place
made : (n : ℕ) (P : ℕ → ℕ → Type 0) → ((i : ℕ) → i < n → (b : ℕ) × P i b)
    → (d : List ℕ) × (length d ≡ n) × ((i : ℕ) → i < n → P i (slice_index d i))
made zero P each = ([], refl, λ i low. absurd (omega (arith, low)))
made (suc n) P each =
    let first = each 0 (omega arith) in
    let rest = made n (λ i. P (suc i)) (λ i low. each (suc i) (omega (arith, low))) in
    (first.0 ∷ rest.0, ap suc rest.1, at_each first.0 rest.0 first.1 rest.2)
  where
    at_each : (b : ℕ) (d : List ℕ) → P 0 b → ((i : ℕ) → i < n → P (suc i) (slice_index d i)) → (i : ℕ) → i < suc n
        → P i (slice_index (b ∷ d) i)
    at_each b d here there zero low = here
    at_each b d here there (suc i) low = there i (omega (arith, low))

module _ (at : ℕ) (bytes synced old new c : List ℕ) (grown : length synced ≤ length old) (mixed : Mixed at bytes old new)
    (left : MayLeave synced new c) where
  -- a crash before the write may have left this byte, of which the write then made the one that is left
  record Before (i b : ℕ) : Type 0 where
    synced_or_old : i < length synced → (b ≡ slice_index synced i) ⊎ (b ≡ slice_index old i)
    below : i < at → slice_index c i ≡ b
    above : at + length bytes ≤ i → slice_index c i ≡ b
    inside : at ≤ i → i < at + length bytes → (slice_index c i ≡ b) ⊎ (slice_index c i ≡ slice_index bytes (i - at))

  the_same : (i b : ℕ) → (i < length synced → (b ≡ slice_index synced i) ⊎ (b ≡ slice_index old i)) → slice_index c i ≡ b → Before i b
  the_same i b known same = record { synced_or_old = known; below = λ _. same; above = λ _. same; inside = λ _ _. inl same }

  before : (i : ℕ) → i < length old → (b : ℕ) × Before i b
  before i within = elim (cases_lt i (length synced)) [
    | inr late ↦ (slice_index c i, the_same i (slice_index c i) (λ early. absurd (omega (arith, early, late))) refl)
    | inl early ↦ elim (left.each i early) [
      | inl was ↦ (slice_index synced i, the_same i (slice_index synced i) (λ _. inl refl) was)
      | inr now ↦ elim (cases_lt i at) [
        | inl below ↦ (slice_index old i, the_same i (slice_index old i) (λ _. inr refl) (now ∙ mixed.torn.below i within below))
        | inr from ↦ elim (cases_lt i (at + length bytes)) [
          | inr above ↦ (slice_index old i, the_same i (slice_index old i) (λ _. inr refl) (now ∙ mixed.torn.above i within above))
          | inl inside ↦ written i within early now from inside
        ]
      ]
    ]
  ]
    where
      written : (i : ℕ) → i < length old → i < length synced → slice_index c i ≡ slice_index new i → at ≤ i → i < at + length bytes
          → (b : ℕ) × Before i b
      written i within early now from inside =
          let back : at + (i - at) ≡ i = omega (arith, from) in
          elim (mixed.each (i - at) (omega (arith, from, inside)) (omega (arith, back, within))) [
            | inl kept ↦ (
              slice_index old i,
              the_same i (slice_index old i) (λ _. inr refl)
                  (now ∙ sym (ap (slice_index new) back) ∙ kept ∙ ap (slice_index old) back),
            )
            | inr put ↦ (
              slice_index synced i,
              record {
                synced_or_old = λ _. inl refl;
                below = λ low. absurd (omega (arith, from, low));
                above = λ high. absurd (omega (arith, inside, high));
                inside = λ _ _. inr (now ∙ sym (ap (slice_index new) back) ∙ put);
              },
            )
          ]

  left_before : (d : List ℕ) × MayLeave synced old d × Mixed at bytes d c
  left_before =
      let n = min (length c) (length old) in
      let (d, size, each) = made n Before (λ i low. before i (omega (arith, low))) in (
        d,
        record {
          no_shorter = omega (arith, size, grown, left.no_shorter);
          no_longer = omega (arith, size);
          each = λ i low. (each i (omega (arith, low, grown, left.no_shorter))).synced_or_old low;
        },
        record {
          torn = record {
            no_shorter = omega (arith, size);
            no_longer = omega (arith, size, left.no_longer, mixed.torn.no_longer);
            below = λ i within low. (each i (omega (arith, within, size))).below low;
            above = λ i within high. (each i (omega (arith, within, size))).above high;
          };
          each = λ i low within.
              let back : at + i - at ≡ i = omega arith in
              elim ((each (at + i) (omega (arith, within, size))).inside (omega arith) (omega (arith, low))) [
                | inl same ↦ inl same
                | inr put ↦ inr (put ∙ ap (slice_index bytes) back)
              ];
        },
      )

module _ (at : ℕ) (bytes synced old new : List ℕ) (grown : length synced ≤ length old) (mixed : Mixed at bytes old new) where
  pub written_mixed : Follows (Mixed at bytes) (MayLeave synced old) (MayLeave synced new)
  written_mixed = λ c left. left_before at bytes synced old new c grown mixed left

  pub written_torn : Follows (Torn at (length bytes)) (MayLeave synced old) (MayLeave synced new)
  written_torn = λ c left. let (d, may, m) = left_before at bytes synced old new c grown mixed left in (d, may, m.torn)
