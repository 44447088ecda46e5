-- Marks of ranges in maps: the places of each transaction, and the marks under each prefix.
use Rattle.std.specs.Prelude.{◌≡◌, ◌≢◌, Option, Some, None, ℕ, Bool, false, ◌&&◌, ◌||◌, List}
use Rattle.std.specs.List.{list_any}
use Rattle.std.specs.Ordering.{nat_cmp, is_eq}
use Rattle.std.specs.BTreeMap.{BTreeMap, get}
use Rattle.std.specs.BTreeSet.{BTreeSet, contains}
use Rattle.adya_keys.specs.Meaning.Keys.{lies_in}
use Rattle.ssi_reads.specs.declared.span.Span.{Span}
use Rattle.ssi_reads.specs.declared.span.Mark.{Mark}
use Rattle.ssi_reads.specs.declared.place.Place.{Place}
use Rattle.ssi_reads.specs.declared.range_marks.RangeMarks.{RangeMarks}
use Rattle.ssi_reads.specs.Machinery.Prefixes.{prefixes, prefix_cmp, mark_cmp, place_cmp, covers}

abbrev pub mark_of : Place → ℕ → Mark
mark_of p u = record { span = p.span; txn = u }

abbrev pub place_of : Option (List ℕ) → Span → Place
place_of q s = record { prefix = q; span = s }

abbrev pub mark_in : Option (BTreeSet Mark) → Mark → Bool
mark_in None x = false
mark_in (Some s) x = contains mark_cmp s x

-- the mark stands under the prefix
abbrev pub filed : BTreeMap (Option (List ℕ)) (BTreeSet Mark) → Option (List ℕ) → Mark → Bool
filed m q x = mark_in (get prefix_cmp m q) x

abbrev pub place_in : Option (BTreeSet Place) → Place → Bool
place_in None p = false
place_in (Some s) p = contains place_cmp s p

abbrev pub any_place_in : Option (BTreeSet Place) → (Place → Bool) → Bool
any_place_in None f = false
any_place_in (Some s) f = list_any f s.keys

-- a place of the transaction passes the test
abbrev pub any_place : BTreeMap ℕ (BTreeSet Place) → ℕ → (Place → Bool) → Bool
any_place m u f = any_place_in (get nat_cmp m u) f

-- a mark of a range is one that both maps have
abbrev pub ranged : RangeMarks → ℕ → List ℕ → Bool
ranged m u k = any_place m.places u (λ p. covers p k && filed m.marks p.prefix (mark_of p u))

-- ---- what changes

-- the transaction has one more place
abbrev pub HasMorePlaces : ℕ → Place → BTreeMap ℕ (BTreeSet Place) → BTreeMap ℕ (BTreeSet Place) → Type 0
HasMorePlaces t p m n =
    (u : ℕ) (f : Place → Bool) → any_place n u f ≡ ((is_eq (nat_cmp t u) && f p) || any_place m u f)

abbrev pub HasSamePlaces : BTreeMap ℕ (BTreeSet Place) → BTreeMap ℕ (BTreeSet Place) → Type 0
HasSamePlaces m n = (u : ℕ) (f : Place → Bool) → any_place n u f ≡ any_place m u f

-- one more mark stands under the prefix
abbrev pub HasMoreMarks : Option (List ℕ) → Mark → BTreeMap (Option (List ℕ)) (BTreeSet Mark)
    → BTreeMap (Option (List ℕ)) (BTreeSet Mark) → Type 0
HasMoreMarks r y m n =
    (q : Option (List ℕ)) (x : Mark) → filed n q x ≡ ((is_eq (prefix_cmp r q) && is_eq (mark_cmp y x)) || filed m q x)

abbrev pub HasSameMarks : BTreeMap (Option (List ℕ)) (BTreeSet Mark) → BTreeMap (Option (List ℕ)) (BTreeSet Mark)
    → Type 0
HasSameMarks m n = (q : Option (List ℕ)) (x : Mark) → filed n q x ≡ filed m q x

-- the marks of other transactions stay
abbrev pub HasOthers : ℕ → BTreeMap (Option (List ℕ)) (BTreeSet Mark) → BTreeMap (Option (List ℕ)) (BTreeSet Mark)
    → Type 0
HasOthers t m n = (q : Option (List ℕ)) (x : Mark) → x.txn ≢ t → filed n q x ≡ filed m q x

-- ---- the walk over the prefixes of a key

-- the mark is over the key, and its transaction has the range under this prefix
abbrev pub counts : BTreeMap ℕ (BTreeSet Place) → Option (List ℕ) → List ℕ → Mark → Bool
counts m q k x = lies_in x.span.low x.span.high k && place_in (get nat_cmp m x.txn) (record { prefix = q; span = x.span })

-- one of the marks is of the transaction and counts
abbrev pub any_counts : BTreeMap ℕ (BTreeSet Place) → Option (List ℕ) → List ℕ → ℕ → List Mark → Bool
any_counts m q k u xs = list_any (λ x. is_eq (nat_cmp u x.txn) && counts m q k x) xs

abbrev pub any_counts_in : BTreeMap ℕ (BTreeSet Place) → Option (List ℕ) → List ℕ → ℕ → Option (BTreeSet Mark)
    → Bool
any_counts_in m q k u None = false
any_counts_in m q k u (Some s) = any_counts m q k u s.keys

-- a mark of the transaction under this prefix counts
abbrev pub under : RangeMarks → List ℕ → ℕ → Option (List ℕ) → Bool
under m k u q = any_counts_in m.places q k u (get prefix_cmp m.marks q)

-- the same under any prefix of the key with less than so many bytes
abbrev pub met : RangeMarks → List ℕ → ℕ → ℕ → Bool
met m k u n = list_any (under m k u) (prefixes k n)
