-- The places of a line, by the start and the end that are read.
use Rattle.std.proofs.Common.{◌≡◌, ◌≢◌, ℕ, zero, suc, ◌+◌, ◌-◌, ◌<◌, ◌≤◌, ◌^◌, List, Some, None, Result, Ok, Err, length, drop, min, set, subst, option_and_then, slice_get, slice_index, slice_range, sym, ◌∙◌, ap, arith, refl}
use Rattle.std.specs.Prelude.{OnErr, OnOk}
use Rattle.std.proofs.lemmas.List.{get_or-drop, get_or-take, length-drop, length-set, length-take}
use Rattle.std.proofs.lemmas.Option.{get_or_from_slice_get, none-some, slice_get-get_or, slice_get_past}
use Rattle.std.proofs.lemmas.Result.{on_ok_weaker}
use mir.Syntax.{w64}
use mir.Val.{Fits}
use Rattle.adya_terms.specs.Machinery.LinePlaces.{line_places, AreStarts}
use Rattle.adya_terms.specs.Machinery.Places.{held}
use Rattle.adya_terms.proofs.LineParts.{place_within}

pub fits_more : (n : ℕ) → n < 2 ^ 60 → Fits w64 (n + 1)
fits_more n small = omega (arith, small)

pub below_suc : (i n : ℕ) → suc i < n → i < n
below_suc i n less = omega (arith, less)

pub below_next : (i n : ℕ) → suc i < n → i + 1 < n
below_next i n less = omega (arith, less)

-- what a place holds, if the number at it isn't 0
pub held_from : (above : ℕ) → above ≢ 0 → held above ≡ Some (above - 1)
held_from zero some = absurd (some refl)
held_from (suc at) some = let same : at ≡ suc at - 1 = omega arith in ap Some same

module _ (writes starts : List ℕ) (ordered : AreStarts starts (length writes)) (line : ℕ) (there : suc line < length starts)
    (a b : ℕ) (start : slice_get starts line ≡ Some a) (end : slice_get starts (line + 1) ≡ Some b) where
  start_is : slice_index starts line ≡ a
  start_is = get_or_from_slice_get starts line a 0 start

  end_is : slice_index starts (suc line) ≡ b
  end_is = let next : suc line ≡ line + 1 = omega arith in ap (slice_index starts) next ∙ get_or_from_slice_get starts (line + 1) b 0 end

  pub in_order : a ≤ b
  in_order = let rise = ordered.rise line there in let low = start_is in let high = end_is in omega (arith, rise, low, high)

  pub ends_within : b ≤ length writes
  ends_within = let within = ordered.within line there in let high = end_is in omega (arith, within, high)

  pub places_read : slice_range writes a b ≡ line_places writes starts line
  places_read = ap (λ n. slice_range writes n b) (sym start_is) ∙ ap (slice_range writes (slice_index starts line)) (sym end_is)

  pub past_end : (p : ℕ) → b - a ≤ p → None ≡ option_and_then held (slice_get (line_places writes starts line) p)
  past_end p from =
      let taken = length-take (b - a) (drop a writes) in
      ap (option_and_then held) (sym (slice_get_past (slice_range writes a b) p (omega (arith, from, taken))) ∙ ap (λ ws. slice_get ws p) places_read)

  pub place_read : (p : ℕ) → p < b - a → slice_get writes (a + p) ≡ slice_get (line_places writes starts line) p
  place_read p less =
      let within = ends_within in
      let taken = length-take (b - a) (drop a writes) in
      let left = length-drop a writes in
      slice_get-get_or writes (a + p) 0 (omega (arith, less, within)) ∙
      (ap Some (sym (get_or-take (b - a) (drop a writes) p 0 less ∙ get_or-drop a writes p 0)) ∙
      (sym (slice_get-get_or (slice_range writes a b) p 0 (omega (arith, less, within, taken, left))) ∙
      ap (λ ws. slice_get ws p) places_read))

-- ---- after a place is filled, as far as memory isn't refused

module _ {T E : Type 0} (writes starts : List ℕ) (ordered : AreStarts starts (length writes)) (line : ℕ) where
  pub starts_kept : (result : Result T E) (after : List ℕ) (n v : ℕ) → OnOk result (after ≡ set writes n v) → OnErr result (after ≡ writes)
      → AreStarts starts (length after)
  starts_kept (Ok u) after n v ok err = subst (AreStarts starts) (sym (ap length ok ∙ length-set writes n v)) ordered
  starts_kept (Err e) after n v ok err = subst (AreStarts starts) (sym (ap length err)) ordered

  pub filled_at : (result : Result T E) (after : List ℕ) (a p n at : ℕ) → slice_get starts line ≡ Some a → n ≡ min (a + p) 18446744073709551615
      → length writes < 2 ^ 64 → OnOk result (after ≡ set writes n (at + 1))
      → OnOk result (suc line < length starts → p < length (line_places writes starts line) → after ≡ set writes (slice_index starts line + p) (suc at))
  filled_at result after a p n at start n_is fits = on_ok_weaker result (λ ok there less.
      let start_is = get_or_from_slice_get starts line a 0 start in
      let end = place_within writes starts ordered line p there less in
      let within = ordered.within line there in
      let place : n ≡ slice_index starts line + p = omega (arith, start_is, end, within, fits, n_is) in
      let next : at + 1 ≡ suc at = omega arith in
      ok ∙ (ap (λ m. set writes m (at + 1)) place ∙ ap (set writes (slice_index starts line + p)) next))

pub no_line : {P : Type 0} (starts : List ℕ) (line : ℕ) → slice_get starts line ≡ None → suc line < length starts → P
no_line starts line none there = absurd (none-some (slice_index starts line) (sym none ∙ slice_get-get_or starts line 0 (omega (arith, there))))
