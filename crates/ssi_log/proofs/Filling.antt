-- One write of zeros more.
use Rattle.std.proofs.Common.{◌≡◌, ◌⊎◌, inl, inr, ℕ, replicate, take, min, ◌+◌, ◌-◌, ◌<◌, ◌≤◌, List, length, slice_index, refl, sym, ◌∙◌, ap, arith}
use Rattle.std.proofs.lemmas.Bool.{cases_lt}
use Rattle.std.proofs.lemmas.List.{get_or-replicate, get_or-take, length-replicate, length-take, length-take-le}
use Rattle.sqlite_disk.specs.Disk.{Follows, Holds, Mixed, Torn}
use Rattle.ssi_log.specs.Machinery.Zeros.{HasZeros, IsSameBelow, IsZeroed}

abbrev pub AreZeros : List ℕ → Type 0
AreZeros bytes = (i : ℕ) → i < length bytes → slice_index bytes i ≡ 0

module _ (from at : ℕ) (bytes : List ℕ) (behind : from ≤ at) where
  -- what a torn write behind a place leaves below it
  pub torn_below : (old mid new : List ℕ) → IsSameBelow from old mid → Torn at (length bytes) mid new → IsSameBelow from old new
  torn_below old mid new was torn = record {
    no_shorter = omega (arith, was.no_shorter, torn.no_shorter);
    below = λ i within low. torn.below i (omega (arith, was.no_shorter, within)) (omega (arith, low, behind)) ∙ was.below i within low;
  }

  -- what was written, and zeros before it
  pub more_zeros : (mid new : List ℕ) → AreZeros bytes → (from < at → HasZeros from at mid) → Torn at (length bytes) mid new
      → Holds new at bytes → HasZeros from (at + length bytes) new
  more_zeros mid new are were torn holds = record {
    size = holds.within;
    zeros = λ i high low. elim (cases_lt i at) [
      | inl early ↦
          let has = were (omega (arith, early, high)) in
          torn.below i (omega (arith, early, has.size)) early ∙ has.zeros i high early
      | inr late ↦
          let inside : i - at < length bytes = omega (arith, late, low) in
          ap (slice_index new) (omega (arith, late)) ∙ holds.each (i - at) inside ∙ are (i - at) inside
    ];
  }

  module _ (are : AreZeros bytes) (start d c : List ℕ) (was : IsZeroed from start d) (m : Mixed at bytes d c) where
    zeroed : IsZeroed from start c
    zeroed = record {
      same = torn_below start d c was.same m.torn;
      behind = λ i within high. elim (cases_lt i at) [
        | inl early ↦ kept i within high (m.torn.below i (there i within) early)
        | inr late ↦ elim (cases_lt i (at + length bytes)) [
          | inl inside ↦ mixed i within high late inside
          | inr beyond ↦ kept i within high (m.torn.above i (there i within) beyond)
        ]
      ];
    }
      where
        there : (i : ℕ) → i < length start → i < length d
        there i within = omega (arith, was.same.no_shorter, within)

        kept : (i : ℕ) → i < length start → from ≤ i → slice_index c i ≡ slice_index d i
            → (slice_index c i ≡ slice_index start i) ⊎ (slice_index c i ≡ 0)
        kept i within high same = elim (was.behind i within high) [ inl is ↦ inl (same ∙ is) | inr none ↦ inr (same ∙ none) ]

        mixed : (i : ℕ) → i < length start → from ≤ i → at ≤ i → i < at + length bytes
            → (slice_index c i ≡ slice_index start i) ⊎ (slice_index c i ≡ 0)
        mixed i within high late inside =
            let k : i - at < length bytes = omega (arith, late, inside) in
            let back : at + (i - at) ≡ i = omega (arith, late) in
            let in_d : at + (i - at) < length d = omega (arith, there i within, late) in
            elim (m.each (i - at) k in_d) [
              | inl old ↦ kept i within high (ap (slice_index c) (sym back) ∙ old ∙ ap (slice_index d) back)
              | inr new ↦ inr (ap (slice_index c) (sym back) ∙ new ∙ are (i - at) k)
            ]

  pub zeroed_more : AreZeros bytes → (start mid new : List ℕ → Type 0) → Follows (IsZeroed from) start mid → Follows (Mixed at bytes) mid new
      → Follows (IsZeroed from) start new
  zeroed_more are start mid new was follows = λ c now.
      let (d, in_mid, m) = follows c now in
      let (s, in_start, z) = was d in_mid in
      (s, in_start, zeroed are s d c z m)

pub not_zeroed : (from : ℕ) (start : List ℕ → Type 0) → Follows (IsZeroed from) start start
not_zeroed from start = λ c now. (
  c,
  now,
  record {
    same = record { no_shorter = omega arith; below = λ i within low. refl };
    behind = λ i within high. inl refl;
  },
)

abbrev pub zero_bytes : ℕ → List ℕ
zero_bytes m = replicate m 0

pub first_zeros : (n m : ℕ) → AreZeros (take n (zero_bytes m))
first_zeros n m = λ i within.
    let few : length (take n (zero_bytes m)) ≡ min n (length (zero_bytes m)) = length-take n (zero_bytes m) in
    let all : length (zero_bytes m) ≡ m = length-replicate m 0 in
    get_or-take n (zero_bytes m) i 0 (omega (arith, within, few)) ∙ get_or-replicate m i 0 0 (omega (arith, within, few, all))

pub first_size : (n m : ℕ) → n ≤ m → length (take n (zero_bytes m)) ≡ n
first_size n m few =
    let all : length (zero_bytes m) ≡ m = length-replicate m 0 in
    length-take-le n (zero_bytes m) (omega (arith, few, all))
