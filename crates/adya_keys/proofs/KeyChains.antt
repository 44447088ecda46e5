-- Keys chained by the buckets of a table: a key is found along the chain of its bucket, or it isn't there.
use Rattle.std.proofs.Common.{◌≡◌, ◌∙◌, ◌≢◌, ℕ, zero, suc, ◌+◌, ◌*◌, ◌<◌, ◌≤◌, ◌==◌, ◌&&◌, true, false, cond, List, [], ◌∷◌, ◌++◌, length, set, get_or, replicate, slice_get, slice_index, Some, None, sym, ap, subst, refl, arith, inl, inr, get_or-set_other, get_or-set_same}
use Rattle.std.specs.Prelude.{nat_le, nat_lt}
use Rattle.std.specs.List.{position_or_len, list_all, AllByRecursion, IsDistinct}
use Rattle.std.proofs.lemmas.Bool.{and_from, and_parts, both_ways, cases_Bool, cases_eq, cases_lt, eq-eqb, eqb-true, leb-true, ltb-true}
use Rattle.std.proofs.lemmas.List.{get_or_append_left, length-append, length-set}
use Rattle.std.proofs.lemmas.List.Sums.{position_or_len_is}
use Rattle.std.proofs.lemmas.Option.{get_or_from_slice_get, slice_get-get_or}
use Rattle.std.proofs.Math.Seq.{get_or-append_seam}
use Rattle.lemmas.proofs.Orderings.{bytes_eq-from, bytes_eq-same}
use Rattle.adya_keys.specs.Meaning.Keys.{Key, is_key, is_key_byte, key_eq}
use Rattle.adya_keys.specs.Machinery.Within.{key_at}
use Rattle.adya_keys.specs.Machinery.KeyHash.{bucket_of}
use Rattle.adya_keys.specs.Machinery.Buckets.{last_in, place_in, AreChained, AreOthers, IsTable}
use Rattle.adya_keys.specs.Machinery.KeyTables.{CanTake}
use Rattle.adya_keys.specs.Machinery.Parts.{HasRoom}
use Rattle.adya_keys.specs.declared.key_table.KeyTable.{KeyTable}
use Rattle.adya_keys.specs.declared.parts.Parts.{Parts}
use Rattle.adya_keys.specs.Mirror.{number_in}
use Rattle.adya_keys.proofs.IndexRoom.{fewer_fit}
use Rattle.adya_keys.proofs.KeyNumbers.{are_numbered}

-- ---- the last in a bucket

record IsLast (place : ℕ → ℕ) (b n l : ℕ) : Type 0 where
  within : l ≤ n
  none : (i : ℕ) → l ≤ i → i < n → (place i == b) ≡ false
  here : (i : ℕ) → l ≡ suc i → (place i == b) ≡ true

is_last : (place : ℕ → ℕ) (b n : ℕ) → IsLast place b n (last_in place b n)
is_last place b zero = record {
  within = omega arith;
  none = λ i l m. absurd (omega (arith, m));
  here = λ i e. absurd (omega (arith, e));
}
is_last place b (suc n) =
    elim (cases_Bool (place n == b)) [
      | inl holds ↦ rw holds (record {
        within = omega arith;
        none = λ i l m. absurd (omega (arith, l, m));
        here = λ i e. let same : n ≡ i = omega (arith, e) in subst (λ j. (place j == b) ≡ true) same holds;
      })
      | inr fails ↦
          let below : IsLast place b n (last_in place b n) = is_last place b n in
          rw fails (record {
            within = let less = below.within in omega (arith, less);
            none = λ i l m. elim (cases_eq i n) [
              | inl same ↦ subst (λ j. (place j == b) ≡ false) (sym same) fails
              | inr other ↦ below.none i l (omega (arith, m, other))
            ];
            here = below.here;
          })
    ]

last_same : (f g : ℕ → ℕ) (b n : ℕ) → ((j : ℕ) → j < n → f j ≡ g j) → last_in f b n ≡ last_in g b n
last_same f g b zero e = refl
last_same f g b (suc n) e =
    ap (λ p. cond (p == b) (suc n) (last_in f b n)) (e n (omega arith)) ∙
    ap (λ l. cond (g n == b) (suc n) l) (last_same f g b n (λ j l. e j (omega (arith, l))))

-- ---- along a chain

pub index_is : (xs : List ℕ) (i x : ℕ) → x ≡ get_or xs i x → i < length xs → x ≡ slice_index xs i
index_is xs i x e l = sym (get_or_from_slice_get xs i x 0 (slice_get-get_or xs i x l ∙ ap Some (sym e)))

-- a number, counted from 1, that the chain of the key's bucket comes to, when the keys after it were others
pub record IsLink (ks : List Key) (buckets : ℕ) (k : Key) (l : ℕ) : Type 0 where
  pub within : l ≤ length ks
  pub others : AreOthers ks k l
  pub here : (j : ℕ) → l ≡ suc j → (place_in ks buckets j == bucket_of buckets k) ≡ true

-- a key in another bucket is another
other_place : (ks : List Key) (buckets : ℕ) (k : Key) (j : ℕ) → (place_in ks buckets j == bucket_of buckets k) ≡ false → key_eq k (key_at ks j) ≡ false
other_place ks buckets k j apart =
    elim (cases_Bool (key_eq k (key_at ks j))) [
      | inl same ↦ absurd (both_ways _ apart (eq-eqb _ _ (ap (bucket_of buckets) (sym (bytes_eq-same k (key_at ks j) same)))))
      | inr other ↦ other
    ]

module _ (ks : List Key) (heads next : List ℕ) (chained : AreChained ks heads next (length ks)) (k : Key) where
  pub first_link : (b l : ℕ) → b ≡ bucket_of (length heads) k → b < length heads → l ≡ slice_index heads b → IsLink ks (length heads) k l
  first_link b l is less link =
      let found : l ≡ last_in (place_in ks (length heads)) (bucket_of (length heads) k) (length ks) =
      link ∙ (chained.last b less ∙ ap (λ c. last_in (place_in ks (length heads)) c (length ks)) is) in
      let last = is_last (place_in ks (length heads)) (bucket_of (length heads) k) (length ks) in
      rw found (record {
        within = last.within;
        others = λ j from m. other_place ks (length heads) k j (last.none j from m);
        here = last.here;
      })

  -- and the link before it is a lesser one
  pub next_link : (j l : ℕ) → IsLink ks (length heads) k (suc j) → key_eq k (key_at ks j) ≡ false → l ≡ slice_index next j
      → IsLink ks (length heads) k l × (l < suc j)
  next_link j l at other link =
      let m = length heads in
      let less : j < length ks = let w = at.within in omega (arith, w) in
      let bucket : place_in ks m j ≡ bucket_of m k = eqb-true _ _ (at.here j refl) in
      let found : l ≡ last_in (place_in ks m) (bucket_of m k) j =
      link ∙ (chained.before j less ∙ ap (λ c. last_in (place_in ks m) c j) bucket) in
      let last = is_last (place_in ks m) (bucket_of m k) j in
      let down : last_in (place_in ks m) (bucket_of m k) j ≤ j = last.within in
      rw found (
        record {
          within = omega (arith, down, less);
          others = λ i from up. elim (cases_lt i j) [
            | inl before ↦ other_place ks m k i (last.none i from before)
            | inr later ↦ elim (cases_eq i j) [
              | inl same ↦ subst (λ n. key_eq k (key_at ks n) ≡ false) (sym same) other
              | inr apart ↦ at.others i (omega (arith, later, apart)) up
            ]
          ];
          here = last.here;
        },
        omega (arith, down),
      )

-- ---- the number of a key

pub found_number : (ks : List Key) → IsDistinct key_eq ks → (k : Key) (j : ℕ) → j < length ks → key_eq k (key_at ks j) ≡ true → number_in ks k ≡ Some j
found_number ks distinct k j less same =
    ap (number_in ks) (bytes_eq-same k (key_at ks j) same) ∙ are_numbered ks distinct j less

pub key_found : (ks : List Key) (k : Key) (j : ℕ) → j < length ks → key_eq k (key_at ks j) ≡ true → slice_get ks j ≡ Some k
key_found ks k j less same = slice_get-get_or ks j [] less ∙ ap Some (sym (bytes_eq-same k (key_at ks j) same))

pub no_number : (ks : List Key) (k : Key) → AreOthers ks k 0 → number_in ks k ≡ None
no_number ks k others =
    let all : position_or_len (key_eq k) ks ≡ length ks =
    position_or_len_is (key_eq k) ks (length ks) [] (omega arith) (λ i l. others i (omega arith) l) (λ l. absurd (omega (arith, l))) in
    let out : nat_lt (length ks) (length ks) ≡ false = elim (cases_Bool (nat_lt (length ks) (length ks))) [
      | inl less ↦ let below : length ks < length ks = ltb-true (length ks) (length ks) less in absurd (omega (arith, below))
      | inr fails ↦ fails
    ] in
    ap (λ i. cond (nat_lt i (length ks)) (Some i) None) all ∙ ap (λ b. cond b (Some (length ks)) None) out

all_with : {A : Type 0} (P : A → Type 0) (xs : List A) (x : A) → AllByRecursion P xs → P x → AllByRecursion P (xs ++ x ∷ [])
all_with P [] x all p = (p, tt)
all_with P (y ∷ ys) x all p = (all.0, all_with P ys x all.1 p)

-- one more key that is none of the others
pub distinct_with : (ks : List Key) (k : Key) → IsDistinct key_eq ks → AreOthers ks k 0 → IsDistinct key_eq (ks ++ k ∷ [])
unfolding IsDistinct
distinct_with [] k distinct others = (tt, tt)
distinct_with (x ∷ ks) k distinct others = (
  all_with (λ y. key_eq x y ≡ false) ks k distinct.0 (elim (cases_Bool (key_eq x k)) [
    | inl same ↦ absurd (both_ways _ (others zero (omega arith) (omega arith)) (bytes_eq-from k x (sym (bytes_eq-same x k same))))
    | inr other ↦ other
  ]),
  distinct_with ks k distinct.1 (λ j from less. others (suc j) (omega arith) (omega (arith, less))),
)

-- ---- one more key in its chain

apart : (x y : ℕ) → x ≢ y → (x == y) ≡ false
apart x y d = elim (cases_Bool (x == y)) [ inl e ↦ absurd (d (eqb-true x y e)) | inr e ↦ e ]

pub none_chained : (ks : List Key) (next : List ℕ) (m : ℕ) → AreChained ks (replicate m 0) next 0
none_chained ks next m = record {
  last = λ b l. zero_at m b;
  before = λ j l. absurd (omega (arith, l));
}
  where
    zero_at : (n b : ℕ) → slice_index (replicate n 0) b ≡ 0
    zero_at zero b = refl
    zero_at (suc n) zero = refl
    zero_at (suc n) (suc b) = zero_at n b

module _ (ks : List Key) (heads next : List ℕ) (n : ℕ) (chained : AreChained ks heads next n) where
  abbrev place : ℕ → ℕ
  place j = place_in ks (length heads) j

  pub one_more_chained : (b : ℕ) → b ≡ place_in ks (length heads) n → b < length heads → n < length next
      → AreChained ks (set heads b (suc n)) (set next n (slice_index heads b)) (suc n)
  one_more_chained b is less room =
      let same : length (set heads b (suc n)) ≡ length heads = length-set heads b (suc n) in
      record {
        last = λ c l. subst (λ m. slice_index (set heads b (suc n)) c ≡ last_in (place_in ks m) c (suc n)) (sym same) (new_last c (omega (arith, l, same)));
        before = λ j l. subst (λ m. slice_index (set next n (slice_index heads b)) j ≡ last_in (place_in ks m) (place_in ks m j) j) (sym same) (new_before j l);
      }
    where
      new_last : (c : ℕ) → c < length heads → slice_index (set heads b (suc n)) c ≡ last_in place c (suc n)
      new_last c l = elim (cases_eq c b) [
        | inl equal ↦
            ap (slice_index (set heads b (suc n))) equal ∙
            (get_or-set_same heads b (suc n) 0 less ∙
            sym (ap (λ t. cond t (suc n) (last_in place c n)) (eq-eqb (place n) c (sym is ∙ sym equal))))
        | inr other ↦
            get_or-set_other heads b c (suc n) 0 other ∙
            (chained.last c l ∙
            sym (ap (λ t. cond t (suc n) (last_in place c n)) (apart (place n) c (λ e. other (sym e ∙ sym is)))))
      ]

      new_before : (j : ℕ) → j < suc n → slice_index (set next n (slice_index heads b)) j ≡ last_in place (place j) j
      new_before j l = elim (cases_eq j n) [
        | inl equal ↦
            ap (slice_index (set next n (slice_index heads b))) equal ∙
            (get_or-set_same next n (slice_index heads b) 0 room ∙
            (chained.last b less ∙
            (ap (λ c. last_in place c n) is ∙ ap (λ i. last_in place (place i) i) (sym equal))))
        | inr other ↦ get_or-set_other next n j (slice_index heads b) 0 other ∙ chained.before j (omega (arith, l, other))
      ]

  -- more keys and more room for their links change nothing of the first
  pub still_chained : (more : List Key) (link : ℕ) → n ≤ length ks → n ≤ length next → AreChained (ks ++ more) heads (next ++ link ∷ []) n
  still_chained more link within room =
      let same : (j : ℕ) → j < n → place_in ks (length heads) j ≡ place_in (ks ++ more) (length heads) j =
      λ j l. ap (bucket_of (length heads)) (sym (get_or_append_left ks more [] j (omega (arith, l, within)))) in
      record {
        last = λ b l. chained.last b l ∙ last_same place (place_in (ks ++ more) (length heads)) b n same;
        before = λ j l.
            get_or_append_left next (link ∷ []) 0 j (omega (arith, l, room)) ∙
            (chained.before j l ∙
            (last_same place (place_in (ks ++ more) (length heads)) (place j) j (λ i m. same i (omega (arith, m, l))) ∙
            ap (λ c. last_in (place_in (ks ++ more) (length heads)) c j) (same j l)));
      }

-- a key that was added, in its chain
pub added_chained : (ks : List Key) (heads next : List ℕ) (k : Key) (b : ℕ) → AreChained ks heads next (length ks) → length next ≡ length ks
    → b ≡ bucket_of (length heads) k → b < length heads
    → AreChained (ks ++ k ∷ []) (set heads b (suc (length ks))) (set (next ++ 0 ∷ []) (length ks) (slice_index heads b)) (suc (length ks))
added_chained ks heads next k b chained count is less =
    one_more_chained (ks ++ k ∷ []) heads (next ++ 0 ∷ []) (length ks)
    (still_chained ks heads next (length ks) chained (k ∷ []) 0 (omega arith) (omega (arith, count))) b
    (is ∙ ap (bucket_of (length heads)) (sym (get_or-append_seam ks k [] []))) less (omega (arith, length-append next (0 ∷ []), count))

-- ---- a table

pub no_table : IsTable [] [] []
unfolding IsDistinct
no_table = record {
  keys = refl;
  few = omega arith;
  unique = tt;
  count = refl;
  buckets = omega arith;
  some = λ l. l;
  chained = none_chained [] [] 0;
}

pub table_with : (ks : List Key) (heads next : List ℕ) (k : Key) (b : ℕ) → IsTable ks heads next → is_key k ≡ true → AreOthers ks k 0
    → suc (length ks) < 4294967296 → b ≡ bucket_of (length heads) k → b < length heads
    → IsTable (ks ++ k ∷ []) (set heads b (suc (length ks))) (set (next ++ 0 ∷ []) (length ks) (slice_index heads b))
table_with ks heads next k b table key others few is less =
    let links : ℕ = slice_index heads b in
    let count : length (ks ++ k ∷ []) ≡ suc (length ks) = length-append ks (k ∷ []) ∙ omega arith in
    record {
      keys = all_keys_with ks table.keys;
      few = omega (arith, count, few);
      unique = distinct_with ks k table.unique others;
      count = length-set (next ++ 0 ∷ []) (length ks) links ∙ (length-append next (0 ∷ []) ∙ (ap (λ n. n + 1) table.count ∙ sym (length-append ks (k ∷ []))));
      buckets = subst (λ n. n < 4294967296) (sym (length-set heads b (suc (length ks)))) table.buckets;
      some = λ l. subst (λ n. 0 < n) (sym (length-set heads b (suc (length ks)))) (omega (arith, less));
      chained = rw count (added_chained ks heads next k b table.chained table.count is less);
    }
  where
    all_keys_with : (js : List Key) → list_all is_key js ≡ true → list_all is_key (js ++ k ∷ []) ≡ true
    all_keys_with [] all = and_from (is_key k) true key refl
    all_keys_with (j ∷ js) all =
        let both = and_parts (is_key j) (list_all is_key js) all in
        and_from (is_key j) (list_all is_key (js ++ k ∷ [])) both.0 (all_keys_with js both.1)

pub key_fits : (k : Key) → is_key k ≡ true → length k ≤ 32
key_fits k e = leb-true (length k) 32 (and_parts (nat_lt 0 (length k)) (nat_le (length k) 32) (and_parts (nat_lt 0 (length k) && nat_le (length k) 32) (list_all is_key_byte k) e).0).1

-- where many keys fit, fewer do
pub takes_less : (t : KeyTable) (n m : ℕ) → CanTake t (n + m) → CanTake t m
takes_less t n m room =
    let next = room.next in
    let texts = room.texts in
    let all = texts.all in
    let few = texts.few in
    let buckets = room.buckets in
    record {
      buckets = omega (arith, buckets);
      next = omega (arith, next);
      texts = record {
        ends = fewer_fit t.texts.ends (n + m) m (length t.texts.all.items + (n + m) * 32) (length t.texts.all.items + m * 32) (omega arith) (omega arith) texts.ends;
        all = omega (arith, all);
        few = omega (arith, few);
      };
    }

-- where so many keys fit, this one does
pub has_room_for : (p : Parts ℕ) (n : ℕ) (k : Key) → is_key k ≡ true → HasRoom p (n + 1) ((n + 1) * 32) → HasRoom p (n + 1) (n * 32 + length k)
has_room_for p n k key room =
    let fits = key_fits k key in
    let all = room.all in
    record {
      ends = fewer_fit p.ends (n + 1) (n + 1) (length p.all.items + (n + 1) * 32) (length p.all.items + (n * 32 + length k)) (omega arith) (omega (arith, fits)) room.ends;
      all = omega (arith, all, fits);
      few = room.few;
    }
