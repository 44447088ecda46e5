-- What a scan's list has of a key, where its keys rise.
use Rattle.std.proofs.Common.{◌≡◌, ℕ, zero, suc, ◌⊎◌, Bool, true, false, not, ◌↔◌, List, [], ◌∷◌, map, Some, refl, sym, ◌∙◌, ap, subst, arith, inl, inr}
use Rattle.std.proofs.Common.{Ordering, Less, Equal, Greater}
use Rattle.std.specs.List.{list_all, list_any, Contains}
use Rattle.std.specs.List.{All}
use Rattle.std.specs.Ordering.{is_gt, is_le, is_lt, nat_cmp, ordering_reverse}
use Rattle.std.specs.declared.ops.Bound.TheVariants.{Included}
use Rattle.std.specs.BTreeMap.{BTreeMap, IsOrdered, get}
use Rattle.std.specs.BTreeMap.Range.{IsEntryInRange, entries_between, range_contains}
use Rattle.std.proofs.lemmas.Cmp.{nat_list_cmp_total}
use Rattle.std.proofs.lemmas.Map.Lookups.{CmpEqualImpliesEq}
use Rattle.std.proofs.lemmas.Map.Views.{btree_map_get_iff}
use Rattle.std.specs.Cmp.Lexicographic.{slice_cmp}
use Rattle.std.proofs.lemmas.Bool.{or_from, not_from_true, cases_Bool, and_parts, and_from, both_ways, or_left, or_right}
use Rattle.adya_keys.specs.Meaning.Keys.{key_eq, key_le, key_lt, keys_rise, lies_in}
use Rattle.adya_values.specs.Meaning.Histories.{Entry, Event}
use Rattle.adya_values.specs.Computing.Faults.{entry_eq, lists_only, none_or_lists_only}
use Rattle.adya_terms.specs.Machinery.Tables.{written_at}
use Rattle.adya_terms.specs.Machinery.Owed.{AreShown}
use Rattle.adya_terms.specs.Machinery.Checks.{is_of_key}
use Rattle.std.proofs.lemmas.List.Elements.{All-contains}
use Rattle.adya_values.proofs.Entries.{entry_eq-same, entry_eq-from}
use Rattle.adya_keys.proofs.Keys.{rises_below, keys_rise-tail}
use Rattle.lemmas.proofs.Filters.{Contains-filter}
use Rattle.lemmas.proofs.Members.{none_contained}
use Rattle.lemmas.proofs.Orderings.{bytes_eq-same, bytes_eq-from, bytes_lt-trans, bytes_lt-apart, tied_bytes}
use Rattle.lemmas.proofs.Tests.{list_all_when, list_any-source, list_any_when, all_pass}

-- of two that have the same key there is one
pub rise_unique : {Y : Type 0} (key : Y → List ℕ) (ys : List Y) (x y : Y) → keys_rise (map key ys) ≡ true → Contains ys x → Contains ys y → key x ≡ key y → x ≡ y
rise_unique key [] x y r c d same = absurd (none_contained x c)
rise_unique key (z ∷ ys) x y r (zero, l, e) (zero, m, f) same = sym e ∙ f
rise_unique key (z ∷ ys) x y r (zero, l, e) (suc j, m, f) same =
    absurd (bytes_lt-apart (key z) (key y) (rises_below key z ys y r (j, omega (arith, m), f)) (ap key e ∙ same))
rise_unique key (z ∷ ys) x y r (suc i, l, e) (zero, m, f) same =
    absurd (bytes_lt-apart (key z) (key x) (rises_below key z ys x r (i, omega (arith, l), e)) (ap key f ∙ sym same))
rise_unique key (z ∷ ys) x y r (suc i, l, e) (suc j, m, f) same =
    rise_unique key ys x y (keys_rise-tail (key z) (map key ys) r) (i, omega (arith, l), e) (j, omega (arith, m), f) same

abbrev key_of : Entry → List ℕ
key_of w = w.version.key

one_of_key : (es : List Entry) (w y : Entry) → keys_rise (map key_of es) ≡ true → Contains es w → Contains es y → is_of_key w y ≡ true
one_of_key es w y r c d =
    elim (cases_Bool (key_eq y.version.key w.version.key)) [
      | inl same ↦ or_right _ _ (entry_eq-from y w (rise_unique key_of es y w r d c (bytes_eq-same _ _ same)))
      | inr other ↦ or_left _ _ (ap not other)
    ]

pub found_only : (es : List Entry) (x w : Entry) → keys_rise (map (λ (v : Entry). v.version.key) es) ≡ true → Contains es x → x.version.key ≡ w.version.key
    → entry_eq x w ≡ lists_only es w
found_only es x w r c same =
    elim (cases_Bool (entry_eq x w)) [
      | inl t ↦
          let here : Contains es w = subst (Contains es) (entry_eq-same x w t) c in
          t ∙
          sym (and_from _ _
          (list_any_when (entry_eq w) es x c (entry_eq-from w x (sym (entry_eq-same x w t))))
          (list_all_when (is_of_key w) es (λ y d. one_of_key es w y r here d)))
      | inr f ↦
          elim (cases_Bool (lists_only es w)) [
            | inl t ↦
                let only = all_pass (is_of_key w) es x (and_parts _ _ t).1 c in
                absurd (both_ways _ (or_from _ _ (not_from_true _ (bytes_eq-from _ _ same)) f) only)
            | inr g ↦ f ∙ sym g
          ]
    ]

pub missed_only : (es : List Entry) (w : Entry) → list_any (λ (v : Entry). key_eq v.version.key w.version.key) es ≡ false → lists_only es w ≡ false
missed_only es w none =
    elim (cases_Bool (lists_only es w)) [
      | inl t ↦
          let at = list_any-source (entry_eq w) es (and_parts _ _ t).0 in
          let same : at.0.version.key ≡ w.version.key = sym (ap key_of (entry_eq-same w at.0 at.2)) in
          absurd (both_ways _ none (list_any_when (λ (v : Entry). key_eq v.version.key w.version.key) es at.0 at.1 (bytes_eq-from _ _ same)))
      | inr f ↦ f
    ]

le_cases : (a b : List ℕ) (o : Ordering) → slice_cmp nat_cmp a b ≡ o → is_le o ≡ true → (key_lt a b ≡ true) ⊎ (a ≡ b)
le_cases a b Less e l = inl (ap is_lt e)
le_cases a b Equal e l = inr (tied_bytes a b e)
le_cases a b Greater e l = absurd (cc (l))

below_le : (a b c : List ℕ) → key_lt a b ≡ true → key_le b c ≡ true → key_lt a c ≡ true
below_le a b c l e =
    elim (le_cases b c (slice_cmp nat_cmp b c) refl e) [
      | inl m ↦ bytes_lt-trans a b c l m
      | inr same ↦ subst (λ k. key_lt a k ≡ true) same l
    ]

-- no key lies between two that run backwards
pub nothing_between : (low high k : List ℕ) → key_lt high low ≡ true → lies_in low high k ≡ false
nothing_between low high k back =
    elim (cases_Bool (lies_in low high k)) [
      | inl t ↦
          let both = and_parts _ _ t in
          absurd (bytes_lt-apart high high (below_le high k high (below_le high low k back both.0) both.1) refl)
      | inr f ↦ f
    ]

le_not_gt : (o : Ordering) → is_gt o ≡ false → is_le o ≡ true
le_not_gt Less e = refl
le_not_gt Equal e = refl
le_not_gt Greater e = absurd (cc (e))

le_back : (o : Ordering) → is_le o ≡ true → not (is_lt (ordering_reverse o)) ≡ true
le_back Less e = refl
le_back Equal e = refl
le_back Greater e = absurd (cc (e))

gt_back : (o : Ordering) → is_gt (ordering_reverse o) ≡ is_lt o
gt_back Less = refl
gt_back Equal = refl
gt_back Greater = refl

key_exact : CmpEqualImpliesEq (slice_cmp nat_cmp)
key_exact = tied_bytes

between_keys : (low high k : List ℕ) → is_gt (slice_cmp nat_cmp low k) ≡ false → is_gt (slice_cmp nat_cmp k high) ≡ false → lies_in low high k ≡ true
between_keys low high k above below = and_from _ _ (le_not_gt _ above) (le_not_gt _ below)

contained_key : (low high k : List ℕ) → lies_in low high k ≡ true → range_contains (slice_cmp nat_cmp) (Included low) (Included high) k ≡ true
contained_key low high k e =
    let both = and_parts _ _ e in
    and_from _ _ both.0 (ap (λ o. not (is_lt o)) (nat_list_cmp_total.antisymm high k) ∙ le_back _ both.1)

-- the entries of the map between two keys
module _ (m : BTreeMap (List ℕ) ℕ) (low high : List ℕ) (items : List (List ℕ × ℕ))
    (between : items ≡ entries_between (slice_cmp nat_cmp) (Included low) (Included high) m.entries) (ordered : IsOrdered (slice_cmp nat_cmp) m)
    (in_range : All (IsEntryInRange (slice_cmp nat_cmp) (Included low) (Included high) m) items) where
  item_there : (k : List ℕ) (p : ℕ) → lies_in low high k ≡ true → get (slice_cmp nat_cmp) m k ≡ Some p → Contains items (k, p)
  item_there k p inside g =
      let kept = Contains-filter (λ (e : List ℕ × ℕ). range_contains (slice_cmp nat_cmp) (Included low) (Included high) e.0) m.entries (k, p)
      ((btree_map_get_iff nat_list_cmp_total key_exact m ordered k p).0 g) (contained_key low high k inside) in
      subst (λ xs. Contains xs (k, p)) (sym between) kept

  module _ (es : List Entry) (all : List Event) where
    abbrev shows : List ℕ × ℕ → Bool
    shows e = none_or_lists_only es (written_at all (Some e.1))

    items_show : list_all shows items ≡ true → AreShown (Some m) low high es all
    items_show pass k p inside g = all_pass shows items (k, p) pass (item_there k p inside g)

    shown_items : AreShown (Some m) low high es all → list_all shows items ≡ true
    shown_items shown =
        list_all_when shows items
        (λ e c. let there = All-contains (IsEntryInRange (slice_cmp nat_cmp) (Included low) (Included high) m) items e in_range c in
        shown e.0 e.1 (between_keys low high e.0 there.0.0 there.0.1) there.1)

pub runs_forward : (low high : List ℕ) → key_lt high low ≡ false → is_gt (slice_cmp nat_cmp low high) ≡ false
runs_forward low high e = ap is_gt (nat_list_cmp_total.antisymm low high) ∙ (gt_back (slice_cmp nat_cmp high low) ∙ e)

-- the same, where the bounds are these
pub range_shows : (m : BTreeMap (List ℕ) ℕ) (low high : List ℕ) (items : List (List ℕ × ℕ)) (a b : List ℕ) → a ≡ low → b ≡ high
    → items ≡ entries_between (slice_cmp nat_cmp) (Included a) (Included b) m.entries → IsOrdered (slice_cmp nat_cmp) m
    → All (IsEntryInRange (slice_cmp nat_cmp) (Included a) (Included b) m) items
    → (es : List Entry) (all : List Event)
    → (list_all (λ (e : List ℕ × ℕ). none_or_lists_only es (written_at all (Some e.1))) items ≡ true) ↔ AreShown (Some m) low high es all
range_shows m low high items a b from to between ordered in_range es all = (
  items_show m low high items between_is ordered in_range_is es all,
  shown_items m low high items between_is ordered in_range_is es all,
)
  where
    between_is : items ≡ entries_between (slice_cmp nat_cmp) (Included low) (Included high) m.entries
    between_is = subst (λ q. items ≡ entries_between (slice_cmp nat_cmp) (Included low) (Included q) m.entries) to
        (subst (λ q. items ≡ entries_between (slice_cmp nat_cmp) (Included q) (Included b) m.entries) from between)

    in_range_is : All (IsEntryInRange (slice_cmp nat_cmp) (Included low) (Included high) m) items
    in_range_is = subst (λ q. All (IsEntryInRange (slice_cmp nat_cmp) (Included low) (Included q) m) items) to
        (subst (λ q. All (IsEntryInRange (slice_cmp nat_cmp) (Included q) (Included b) m) items) from in_range)
