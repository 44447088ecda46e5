-- Marks in order: those after one whose range starts above the key don't count.
use Rattle.std.proofs.Common.{◌≡◌, ℕ, Bool, true, false, true≢false, ◌&&◌, ◌||◌, List, [], ◌∷◌, Option, refl, sym, ◌∙◌, ap}
use Rattle.std.specs.List.{AllByRecursion}
use Rattle.std.specs.List.Sorted.{IsStrictlySortedBy}
use Rattle.std.specs.Ordering.{nat_cmp, is_le, is_lt, is_eq, is_gt, ordering_then, ordering_reverse}
use Rattle.std.specs.declared.cmp.Ordering.{Ordering}
use Rattle.std.specs.declared.cmp.Ordering.TheVariants.{Less, Equal, Greater}
use Rattle.std.specs.Cmp.Lexicographic.{slice_cmp, nat_list_cmp_total}
use Rattle.std.specs.BTreeMap.{BTreeMap, get}
use Rattle.std.specs.BTreeSet.{BTreeSet}
use Rattle.std.proofs.lemmas.Map.Keys.{sorted_head}
use Rattle.adya_keys.specs.Meaning.Keys.{key_le, key_lt}
use Rattle.lemmas.proofs.Orderings.{less_from_is_lt, tied_bytes}
use Rattle.ssi_reads.specs.declared.span.Mark.{Mark}
use Rattle.ssi_reads.specs.declared.place.Place.{Place}
use Rattle.ssi_reads.specs.Machinery.Prefixes.{mark_cmp}
use Rattle.ssi_reads.specs.Machinery.Ranged.{place_in, counts, any_counts}

starts_above : (k low : List ℕ) → key_lt k low ≡ true → key_le low k ≡ false
starts_above k low less =
    ap is_le (nat_list_cmp_total.antisymm low k ∙ ap ordering_reverse (less_from_is_lt (slice_cmp nat_cmp k low) less))

-- the ranges of later marks start there or after it
by_low : (k : List ℕ) (x y : Mark) → key_lt k x.span.low ≡ true → (o : Ordering)
    → slice_cmp nat_cmp x.span.low y.span.low ≡ o → mark_cmp x y ≡ Less → key_lt k y.span.low ≡ true
by_low k x y less Less e h =
    ap is_lt (nat_list_cmp_total.trans k x.span.low y.span.low (less_from_is_lt (slice_cmp nat_cmp k x.span.low) less) e)
by_low k x y less Equal e h = ap (key_lt k) (sym (tied_bytes x.span.low y.span.low e)) ∙ less
by_low k x y less Greater e h =
    let other : mark_cmp x y ≡ Greater =
    ap (λ o. ordering_then (ordering_then o (slice_cmp nat_cmp x.span.high y.span.high)) (nat_cmp x.txn y.txn)) e in
    absurd (true≢false (sym (ap is_gt other) ∙ ap is_gt h))

module _ (m : BTreeMap ℕ (BTreeSet Place)) (q : Option (List ℕ)) (k : List ℕ) (u : ℕ) where
  beyond : (x : Mark) → key_lt k x.span.low ≡ true → (is_eq (nat_cmp u x.txn) && counts m q k x) ≡ false
  beyond x above =
      ap (λ b. is_eq (nat_cmp u x.txn) && ((b && key_le k x.span.high) && place_in (get nat_cmp m x.txn) (record { prefix = q; span = x.span })))
      (starts_above k x.span.low above) ∙ none (is_eq (nat_cmp u x.txn))
    where
      none : (b : Bool) → (b && false) ≡ false
      none true = refl
      none false = refl

  none_later : (x : Mark) (xs : List Mark) → key_lt k x.span.low ≡ true → AllByRecursion (λ y. mark_cmp x y ≡ Less) xs
      → any_counts m q k u xs ≡ false
  none_later x [] above less = refl
  none_later x (y ∷ ys) above less =
      ap (λ b. b || any_counts m q k u ys) (beyond y (by_low k x y above (slice_cmp nat_cmp x.span.low y.span.low) refl less.0)) ∙
      none_later x ys above less.1

  pub none_from : (x : Mark) (xs : List Mark) → IsStrictlySortedBy mark_cmp (x ∷ xs) → key_lt k x.span.low ≡ true
      → any_counts m q k u (x ∷ xs) ≡ false
  none_from x xs sorted above =
      ap (λ b. b || any_counts m q k u xs) (beyond x above) ∙ none_later x xs above (sorted_head mark_cmp x xs sorted)
