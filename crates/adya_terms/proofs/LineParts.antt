-- The places of all lines in one list: with those of one line more, and after a place of one line is filled.
use Rattle.std.proofs.Common.{◌≡◌, ◌≢◌, ℕ, zero, suc, ◌+◌, ◌-◌, ◌<◌, ◌≤◌, List, [], ◌∷◌, ◌++◌, length, take, drop, set, slice_index, slice_range, Option, Some, None, option_map, sym, ◌∙◌, ap, subst, arith, inl, inr}
use Rattle.std.proofs.Math.ListN.{get_or-append}
use Rattle.std.proofs.Math.Seq.{get_or-append_seam, drop-append_seam, take-length, take-set-lt}
use Rattle.std.proofs.lemmas.Bool.{cases_lt}
use Rattle.std.proofs.lemmas.List.{drop-append-le, drop-set-add, drop-set-lt, length-append, length-drop, length-set, length-take, take-append-le, take-set-le}
use Rattle.std.proofs.lemmas.Option.{none-some, same_Some}
use Rattle.adya_values.specs.Meaning.Histories.{Order}
use Rattle.adya_terms.specs.Machinery.LinePlaces.{line_places, named, AreParts, AreStarts}

-- the writers that are read
pub named_is : (o : Option Order) (ts : List ℕ) → option_map (λ (x : Order). x.writers) o ≡ Some ts → named o ≡ ts
named_is None ts e = absurd (none-some ts e)
named_is (Some o) ts e = same_Some _ _ e

-- ---- one line more

range_kept : (xs ys : List ℕ) (a b : ℕ) → a ≤ b → b ≤ length xs → slice_range (xs ++ ys) a b ≡ slice_range xs a b
range_kept xs ys a b l m =
    let n = length-drop a xs in
    ap (take (b - a)) (drop-append-le a xs ys (omega (arith, l, m))) ∙ take-append-le (b - a) (drop a xs) ys (omega (arith, l, m, n))

range_added : (xs ys : List ℕ) → slice_range (xs ++ ys) (length xs) (length (xs ++ ys)) ≡ ys
range_added xs ys =
    let sum = length-append xs ys in
    let n : length (xs ++ ys) - length xs ≡ length ys = omega (arith, sum) in
    ap (take (length (xs ++ ys) - length xs)) (drop-append_seam xs ys) ∙ (ap (λ k. take k ys) n ∙ take-length ys)

module _ (part : ℕ → List ℕ) (writes starts : List ℕ) (n : ℕ) (before : AreParts part writes starts n)
    (more : List ℕ) (is : more ≡ part n) (all ends : List ℕ) (e : ℕ)
    (writes_are : all ≡ writes ++ more) (e_is : e ≡ length all) (starts_are : ends ≡ starts ++ e ∷ []) where
  old_start : (i : ℕ) → i ≤ n → slice_index ends i ≡ slice_index starts i
  old_start i l =
      let count = before.count in
      ap (λ zs. slice_index zs i) starts_are ∙ get_or-append starts (e ∷ []) 0 i (omega (arith, l, count))

  new_start : slice_index ends (suc n) ≡ length all
  new_start =
      ap (slice_index ends) (sym before.count) ∙
      (ap (λ zs. slice_index zs (length starts)) starts_are ∙ (get_or-append_seam starts e [] 0 ∙ e_is))

  longer : length writes ≤ length all
  longer =
      let sum = ap length writes_are ∙ length-append writes more in
      omega (arith, sum)

  counted : length ends ≡ suc (suc n)
  counted =
      let sum = ap length starts_are ∙ length-append starts (e ∷ []) in
      let count = before.count in
      omega (arith, sum, count)

  -- what holds of the lines before, and of the new line
  each : (P : ℕ → Type 0) → ((i : ℕ) → i < n → P i) → P n → (i : ℕ) → i < suc n → P i
  each P below here i l =
      elim (cases_lt i n) [
        | inl less ↦ below i less
        | inr from ↦ let same : n ≡ i = omega (arith, from, l) in subst P same here
      ]

  risen : (i : ℕ) → i < suc n → slice_index ends i ≤ slice_index ends (suc i)
  risen =
      each (λ i. slice_index ends i ≤ slice_index ends (suc i))
      (λ i l.
      let low = old_start i (omega (arith, l)) in
      let high = old_start (suc i) (omega (arith, l)) in
      let count = before.count in
      let rise = before.ordered.rise i (omega (arith, l, count)) in
      omega (arith, low, high, rise))
      (let low = old_start n (omega arith) in
      let last = before.last in
      let high = new_start in
      let long = longer in
      omega (arith, low, last, high, long))

  ended : (i : ℕ) → i < suc n → slice_index ends (suc i) ≤ length all
  ended =
      each (λ i. slice_index ends (suc i) ≤ length all)
      (λ i l.
      let high = old_start (suc i) (omega (arith, l)) in
      let count = before.count in
      let within = before.ordered.within i (omega (arith, l, count)) in
      let long = longer in
      omega (arith, high, within, long))
      (let high = new_start in omega (arith, high))

  kept : (i : ℕ) → i < n → line_places all ends i ≡ part i
  kept i l =
      let count = before.count in
      let rise = before.ordered.rise i (omega (arith, l, count)) in
      let within = before.ordered.within i (omega (arith, l, count)) in
      ap (λ zs. line_places zs ends i) writes_are ∙
      (ap (λ a. slice_range (writes ++ more) a (slice_index ends (suc i))) (old_start i (omega (arith, l))) ∙
      (ap (slice_range (writes ++ more) (slice_index starts i)) (old_start (suc i) (omega (arith, l))) ∙
      (range_kept writes more (slice_index starts i) (slice_index starts (suc i)) rise within ∙ before.same i l)))

  added : line_places all ends n ≡ part n
  added =
      ap (λ a. slice_range all a (slice_index ends (suc n))) (old_start n (omega arith) ∙ before.last) ∙
      (ap (slice_range all (length writes)) new_start ∙
      (ap (λ zs. slice_range zs (length writes) (length zs)) writes_are ∙ (range_added writes more ∙ is)))

  pub line_added : AreParts part all ends (n + 1)
  line_added =
      let next : suc n ≡ n + 1 = omega arith in
      let count = counted in
      subst (AreParts part all ends) next
      (record {
        count = counted;
        last = new_start;
        ordered = record {
          rise = λ i l. risen i (omega (arith, l, count));
          within = λ i l. ended i (omega (arith, l, count));
        };
        same = each (λ i. line_places all ends i ≡ part i) kept added;
      })

-- ---- after a place is filled

module _ (writes starts : List ℕ) (ordered : AreStarts starts (length writes)) where
  rise_by : (n line : ℕ) → line + n < length starts → slice_index starts line ≤ slice_index starts (line + n)
  rise_by zero line less = let same : line ≡ line + 0 = omega arith in let is = ap (slice_index starts) same in omega (arith, is)
  rise_by (suc n) line less =
      let next : line + suc n ≡ suc (line + n) = omega arith in
      let so_far = rise_by n line (omega (arith, less)) in
      let step = ordered.rise (line + n) (omega (arith, less)) in
      let is = ap (slice_index starts) next in
      omega (arith, so_far, step, is)

  -- a later line starts at the end of an earlier one or after it
  rises : (line later : ℕ) → line ≤ later → later < length starts → slice_index starts line ≤ slice_index starts later
  rises line later order less =
      let split : line + (later - line) ≡ later = omega (arith, order) in
      subst (λ m. slice_index starts line ≤ slice_index starts m) split (rise_by (later - line) line (omega (arith, split, less)))

  -- the end of a place in the whole list
  pub place_within : (line p : ℕ) → suc line < length starts → p < length (line_places writes starts line) → slice_index starts line + p < slice_index starts (suc line)
  place_within line p there less =
      let a = slice_index starts line in
      let b = slice_index starts (suc line) in
      let taken = length-take (b - a) (drop a writes) in
      omega (arith, less, taken)

  module _ (line p v : ℕ) (there : suc line < length starts) (less : p < length (line_places writes starts line)) where
    abbrev start : ℕ
    start = slice_index starts line

    abbrev end : ℕ
    end = slice_index starts (suc line)

    abbrev after : List ℕ
    after = set writes (start + p) v

    pub filled_here : line_places after starts line ≡ set (line_places writes starts line) p v
    filled_here =
        let within = place_within line p there less in
        ap (take (end - start)) (drop-set-add start writes p v) ∙ take-set-lt (end - start) (drop start writes) p v (omega (arith, within))

    earlier : (m : ℕ) → m < line → line_places after starts m ≡ line_places writes starts m
    earlier m before =
        let a = slice_index starts m in
        let b = slice_index starts (suc m) in
        let rise = ordered.rise m (omega (arith, before, there)) in
        let upto = rises (suc m) line (omega (arith, before)) (omega (arith, there)) in
        let split : a + (start + p - a) ≡ start + p = omega (arith, rise, upto) in
        ap (λ at. take (b - a) (drop a (set writes at v))) (sym split) ∙
        (ap (take (b - a)) (drop-set-add a writes (start + p - a) v) ∙
        take-set-le (b - a) (drop a writes) (start + p - a) v (omega (arith, rise, upto)))

    later : (m : ℕ) → line < m → suc m < length starts → line_places after starts m ≡ line_places writes starts m
    later m behind l =
        let a = slice_index starts m in
        let b = slice_index starts (suc m) in
        let within = place_within line p there less in
        let upto = rises (suc line) m (omega (arith, behind)) (omega (arith, l)) in
        ap (take (b - a)) (drop-set-lt a writes (start + p) v (omega (arith, within, upto)))

    pub filled_elsewhere : (m : ℕ) → suc m < length starts → m ≢ line → line_places after starts m ≡ line_places writes starts m
    filled_elsewhere m l other = elim (cases_lt m line) [
      | inl before ↦ earlier m before
      | inr rest ↦ elim (cases_lt line m) [
        | inl behind ↦ later m behind l
        | inr none ↦ absurd (other (omega (arith, rest, none)))
      ]
    ]

    pub still_starts : AreStarts starts (length after)
    still_starts = record {
      rise = ordered.rise;
      within = λ m l. let long = length-set writes (start + p) v in let was = ordered.within m l in omega (arith, long, was);
    }
