-- The least number that a function gives along the index, and what a read meets.
use Rattle.std.proofs.Common.{◌≡◌, ℕ, suc, ◌≤◌, ◌⊎◌, nat_lt, nat_le, Bool, true, false, true≢false, not, ◌&&◌, cond, if◌then◌else◌, List, [], ◌∷◌, filter, Option, Some, None, is_some, option_map, refl, sym, ◌∙◌, ap, subst, arith, inl, inr}
use Rattle.std.specs.Ordering.{nat_cmp, is_lt, is_le, is_gt, ordering_then, ordering_reverse}
use Rattle.std.specs.declared.cmp.Ordering.{Ordering}
use Rattle.std.specs.declared.cmp.Ordering.TheVariants.{Less, Equal, Greater}
use Rattle.std.specs.declared.ops.Bound.TheVariants.{Included}
use Rattle.std.specs.Cmp.{IsTotalOrder}
use Rattle.std.specs.Cmp.Lexicographic.{slice_cmp, nat_list_cmp_total}
use Rattle.std.specs.BTreeMap.{IsOrdered}
use Rattle.std.specs.BTreeMap.Range.{range_contains}
use Rattle.std.specs.Map.{keys_of}
use Rattle.std.proofs.lemmas.Bool.{cases_Bool, cond-true, cond-false, ltb-true, ltb-false, lt-ltb, le-leb, leb-true, leb-false, lt-leb, and_parts, and_from, not_from_false, not-true, both_ways}
use Rattle.std.proofs.lemmas.Bool.Decides.{nat_tests}
use Rattle.std.proofs.lemmas.Cmp.{eq_by_cmp_equiv, then_total, on_total, nat_cmp_total, upto}
use Rattle.std.proofs.lemmas.Map.Keys.{IsDistinct-from_sorted}
use Rattle.std.proofs.lemmas.Map.Lookups.{CmpEqualImpliesEq, exact_bytes, exact_unsigned}
use Rattle.std.proofs.lemmas.Map.Views.{tells_apart, Contains-from_lookup, lookup-from_Contains}
use Rattle.adya_keys.specs.Meaning.Keys.{lies_in, key_le}
use Rattle.ssi_conflict.specs.Meaning.Calls.{is_at_or_below}
use Rattle.ssi_conflict.specs.Computing.Steps.{is_earlier}
use Rattle.ssi_conflict.specs.Machinery.Rows.{Row, sooner, read_conflict, read_pivot, IsSmallestRow, IsLeastStamp}
use Rattle.ssi_conflict.specs.declared.reading.Reading.{Reading}
use Rattle.ssi_conflict.specs.declared.writes.Write.{Write}
use Rattle.ssi_conflict.specs.declared.writes.Writes.{Writes}
use Rattle.lemmas.proofs.Members.{Contains-cases, Contains-head, Contains-cons, none_contained}
use Rattle.lemmas.proofs.Options.{some_value}
use Rattle.lemmas.proofs.Tests.{list_any-source, list_any_when}
use Rattle.ssi_conflict.specs.Machinery.Index.{stamp_in, commit_in, row_passes, IsIndexed, writer_in, IsLowest, lowest, is_met, pivot_at, stamp_at, write_cmp}
use Rattle.std.proofs.lemmas.Option.{same_Some, none-some}
use Rattle.std.specs.List.{Contains}

-- ---- the least of two numbers, and of those along a list

pub record Sooner (a b : Option ℕ) (m : ℕ) : Type 0 where
  pub is : sooner a b ≡ Some m
  pub comes : (a ≡ Some m) ⊎ (b ≡ Some m)
  pub left : (n : ℕ) → a ≡ Some n → m ≤ n
  pub right : (n : ℕ) → b ≡ Some n → m ≤ n

-- neither is there, or the earlier is
pub sooner_cases : (a b : Option ℕ) → ((a ≡ None) × (b ≡ None)) ⊎ ((m : ℕ) × Sooner a b m)
sooner_cases None None = inl (refl, refl)
sooner_cases None (Some m) =
    inr (
      m,
      record {
        is = refl;
        comes = inr refl;
        left = λ n e. absurd (none-some n e);
        right = λ n e. let s =
            same_Some m n e in omega (arith, s);
      },
    )
sooner_cases (Some n) None =
    inr (
      n,
      record {
        is = refl;
        comes = inl refl;
        left = λ m e. let s = same_Some n m e in omega (arith, s);
        right =
            λ m e. absurd (none-some m e);
      },
    )
sooner_cases (Some n) (Some m) =
    elim (cases_Bool (nat_lt m n)) [
      | inl below ↦ inr (
        m,
        record {
          is = cond-true (nat_lt m n) (Some m) (Some n) below;
          comes = inr refl;
          left = λ p e. (let s = same_Some n p e in let l = ltb-true m n below in omega (arith, s, l));
          right = λ p e. let s = same_Some m p e in omega (arith, s);
        },
      )
      | inr above ↦ inr (
        n,
        record {
          is = cond-false (nat_lt m n) (Some m) (Some n) above;
          comes = inl refl;
          left = λ p e. (let s = same_Some n p e in omega (arith, s));
          right = λ p e. let s = same_Some m p e in let l = ltb-false m n above in omega (arith, s, l);
        },
      )
    ]

pub record Found {A : Type 0} (f : A → Option ℕ) (least : Option ℕ) (xs : List A) (m : ℕ) : Type 0 where
  pub comes : (least ≡ Some m) ⊎ ((x : A) × Contains xs x × (f x ≡ Some m))
  pub first : (n : ℕ) → least ≡ Some n → m ≤ n
  pub rest : (x : A) (n : ℕ) → Contains xs x → f x ≡ Some n → m ≤ n

pub found : {A : Type 0} (f : A → Option ℕ) (least : Option ℕ) (xs : List A) (m : ℕ) → lowest f least xs ≡ Some m
    → Found f least xs m
found f least [] m h =
    record {
      comes = inl h;
      first = λ n e. let s = same_Some m n (sym h ∙ e) in omega (arith, s);
      rest = λ x n i.
          absurd (none_contained x i);
    }
found {A} f least (y ∷ ys) m h =
    let w = found f (sooner least (f y)) ys m h in
    elim (sooner_cases least (f y)) [
      | inl none ↦ record {
        comes = elim w.comes [
          | inl e ↦ absurd (none-some m (sym (ap (λ o. sooner o (f y)) none.0 ∙ none.1) ∙ e))
          | inr
              x ↦ inr (x.0, Contains-cons y ys x.0 x.1, x.2)
        ];
        first = λ n e. absurd (none-some n (sym none.0 ∙ e));
        rest = λ x n i e. elim (Contains-cases y ys x i) [
          | inl same ↦ absurd
              (none-some n (sym none.1 ∙ (ap f same ∙ e)))
          | inr later ↦ w.rest x n later e
        ];
      }
      | inr s ↦
          let below = w.first s.0 s.1.is in
          record {
            comes = elim w.comes [
              | inl e ↦ elim s.1.comes [
                | inl old ↦ inl (old ∙ (sym s.1.is ∙ e))
                | inr new ↦ inr (y, Contains-head y ys, new ∙ (sym s.1.is ∙ e))
              ]
              | inr x ↦ inr (x.0, Contains-cons y ys x.0 x.1, x.2)
            ];
            first = λ n e. (let l = s.1.left n e in omega (arith, l, below));
            rest = λ x n i e. elim (Contains-cases y ys x i) [
              | inl same ↦ (let l = s.1.right n (ap f same ∙ e) in omega (arith, l, below))
              | inr later ↦ w.rest x n
                  later e
            ];
          }
    ]

pub not_found : {A : Type 0} (f : A → Option ℕ) (least : Option ℕ) (xs : List A) → lowest f least xs ≡ None → (x : A)
    → Contains xs x → f x ≡ None
not_found f least [] h = λ x i. absurd (none_contained x i)
not_found f least (y ∷ ys) h = λ x i.
    elim (sooner_cases least (f y)) [
      | inl none ↦ elim (Contains-cases y ys x i) [
        | inl same ↦ ap f (sym same) ∙ none.1
        | inr later ↦ not_found f
            (sooner least (f y)) ys h x later
      ]
      | inr s ↦ absurd (by_first s.0 s.1)
    ]
  where
    first_stays : {A : Type 0} (f : A → Option ℕ) (m : ℕ) (xs : List A) (o : Option ℕ) → o ≡ Some m
        → lowest f o xs ≡ None → ⊥
    first_stays f m [] o e h = none-some m (sym h ∙ e)
    first_stays f m (x ∷ xs) o e h = elim (sooner_cases o (f x)) [
      | inl none ↦ none-some m (sym none.0 ∙ e)
      | inr s ↦ first_stays f s.0 xs (sooner o (f x)) s.1.is h
    ]

    by_first : (m : ℕ) → Sooner least (f y) m → ⊥
    by_first m s = first_stays f m ys (sooner least (f y)) s.is h

-- ---- the order of the writes

pub write_total : IsTotalOrder write_cmp
write_total =
    then_total (on_total (λ (w : Write). w.key) nat_list_cmp_total) (on_total (λ (w : Write). w.before) nat_cmp_total)

both_equal : (o p : Ordering) → ordering_then o p ≡ Equal → (o ≡ Equal) × (p ≡ Equal)
both_equal Equal p e = (refl, e)
both_equal Less p e = absurd (true≢false (ap is_lt e))
both_equal Greater p e = absurd (true≢false (ap is_gt e))

abbrev write : List ℕ → ℕ → Write
write k n = record { key = k; before = n }

pub write_exact : CmpEqualImpliesEq write_cmp
write_exact a b e =
    let p = both_equal (slice_cmp nat_cmp a.key b.key) (nat_cmp a.before b.before) e in
    ap (λ k. write k a.before) (exact_bytes a.key b.key p.0) ∙ ap (write b.key) (exact_unsigned a.before b.before p.1)

-- the least along the entries is the least of the writes
pub lowest_of : (m : Writes) (f : Write × ℕ → Option ℕ) → IsOrdered write_cmp m.writers → (o : Option ℕ)
    → o ≡ lowest f None m.writers.entries → IsLowest (writer_in m) f o
lowest_of m f ordered None h = λ w t e.
    not_found f None m.writers.entries (sym h) (w, t) (Contains-from_lookup (tells_apart write_exact) w t
    m.writers.entries e)
lowest_of m f ordered (Some b) h =
    let w = found f None m.writers.entries b (sym h) in
    elim w.comes [
      | inl e ↦ absurd (none-some b e)
      | inr x ↦ record {
        write = x.0.0;
        txn = x.0.1;
        is_write = lookup-from_Contains (eq_by_cmp_equiv write_total) x.0.0 x.0.1 m.writers.entries
            (IsDistinct-from_sorted write_cmp (keys_of m.writers.entries) ordered) x.1;
        gives = x.2;
        least = λ v t n e g. w.rest (v, t) n (Contains-from_lookup (tells_apart write_exact) v t m.writers.entries e) g;
      }
    ]

-- ---- what a read meets lies in a range

module _ (reading : Reading) (last : ℕ) where
  abbrev pub from : Write
  from = record { key = reading.low; before = reading.snapshot }

  abbrev pub to : Write
  to = record { key = reading.high; before = last }

  below_first : (o : Ordering) (a b : ℕ) → is_le o ≡ true → a ≤ b → is_gt (ordering_then o (nat_cmp a b)) ≡ false
  below_first Less a b h l = refl
  below_first Equal a b h l = grind (arith, nat_tests, l)
  below_first Greater a b h l = absurd (true≢false (sym h))

  pub met_inside : (w : Write) → is_met reading last w ≡ true
      → (is_gt (write_cmp from w) ≡ false) × (is_gt (write_cmp w to) ≡ false)
  met_inside w h =
      let a = and_parts (nat_le reading.snapshot w.before) _ h in
      let b = and_parts (nat_lt w.before last) _ a.1 in
      let c = and_parts (key_le reading.low w.key) _ b.1 in
      let before' = ltb-true w.before last b.0 in (
        below_first (slice_cmp nat_cmp reading.low w.key) reading.snapshot w.before c.0
            (leb-true reading.snapshot w.before a.0),
        below_first (slice_cmp nat_cmp w.key reading.high) w.before last c.1 (omega (arith, before')),
      )

  crossed : (o p : Ordering) → o ≡ ordering_reverse p → is_lt p ≡ true → is_gt o ≡ true
  crossed o Less e h = ap is_gt e
  crossed o Equal e h = absurd (true≢false (sym h))
  crossed o Greater e h = absurd (true≢false (sym h))

  pub uncrossed : is_lt (write_cmp to from) ≡ false → is_gt (write_cmp from to) ≡ false
  uncrossed h = by_order (write_cmp from to) (write_cmp to from) (write_total.antisymm from to) h
    where
      by_order : (o p : Ordering) → o ≡ ordering_reverse p → is_lt p ≡ false → is_gt o ≡ false
      by_order o Less e h = absurd (true≢false h)
      by_order o Equal e h = ap is_gt e
      by_order o Greater e h = ap is_gt e

  -- nothing is met if the range runs downward
  pub none_met : is_lt (write_cmp to from) ≡ true → (w : Write) → is_met reading last w ≡ false
  none_met h w = elim (cases_Bool (is_met reading last w)) [
    | inl is ↦
        let i = met_inside w is in
        absurd (both_ways _ (upto write_total from w to i.0 i.1)
        (crossed (write_cmp from to) (write_cmp to from) (write_total.antisymm from to) h))
    | inr is_not ↦ is_not
  ]

  not_gt : (o : Ordering) → is_gt o ≡ false → is_le o ≡ true
  not_gt Less h = refl
  not_gt Equal h = refl
  not_gt Greater h = absurd (true≢false h)

  not_past : (o p : Ordering) → o ≡ ordering_reverse p → is_gt p ≡ false → is_lt o ≡ false
  not_past o Less e h = ap is_lt e
  not_past o Equal e h = ap is_lt e
  not_past o Greater e h = absurd (true≢false h)

  pub outside_unmet : (w : Write) → range_contains write_cmp (Included from) (Included to) w ≡ false
      → is_met reading last w ≡ false
  outside_unmet w h = elim (cases_Bool (is_met reading last w)) [
    | inl is ↦
        let i = met_inside w is in
        absurd (both_ways _ h (and_from _ _ (not_gt (write_cmp from w) i.0)
        (not_from_false _ (not_past (write_cmp to w) (write_cmp w to) (write_total.antisymm to w) i.1))))
    | inr is_not ↦ is_not
  ]

  sooner-none : (o : Option ℕ) → sooner o None ≡ o
  sooner-none None = refl
  sooner-none (Some n) = refl

  -- the least along the range is the least along all
  pub range_is_all : (f : Write × ℕ → Option ℕ) → ((e : Write × ℕ) → is_met reading last e.0 ≡ false → f e ≡ None)
      → (least : Option ℕ) (es : List (Write × ℕ))
      → lowest f least (filter (λ e. range_contains write_cmp (Included from) (Included to) e.0) es) ≡ lowest f least es
  range_is_all f unmet least [] = refl
  range_is_all f unmet least (e ∷ es) =
      by_test (range_contains write_cmp (Included from) (Included to) e.0) refl (λ o. range_is_all f unmet o es)
    where
      rest : List (Write × ℕ)
      rest = filter (λ d. range_contains write_cmp (Included from) (Included to) d.0) es

      by_test : (b : Bool) → range_contains write_cmp (Included from) (Included to) e.0 ≡ b
          → ((o : Option ℕ) → lowest f o rest ≡ lowest f o es) → lowest f least (cond b (e ∷ rest) rest) ≡ lowest f
          (sooner least (f e)) es
      by_test true h all = all (sooner least (f e))
      by_test false h all =
          all least ∙ ap (λ o. lowest f o es) (sym
          (ap (sooner least) (unmet e (outside_unmet e.0 h)) ∙ sooner-none least))

-- ---- the rows that a read meets

abbrev with_keys : List (List ℕ) → Option ℕ → Option (ℕ × List (List ℕ))
with_keys ks s = option_map (λ m. (m, ks)) s

committed : (o : Option Row) (n : ℕ) (ks : List (List ℕ)) → commit_in o ≡ Some (n, ks)
    → (u : Row) × (o ≡ Some u) × (u.stamp ≡ Some n) × (u.keys ≡ ks)
committed None n ks e = absurd (none-some (n, ks) e)
committed (Some u) n ks e = by_stamp u.stamp refl e
  where
    by_stamp : (s : Option ℕ) → u.stamp ≡ s → with_keys u.keys s ≡ Some (n, ks)
        → (v : Row) × (Some u ≡ Some v) × (v.stamp ≡ Some n) × (v.keys ≡ ks)
    by_stamp None f g = absurd (none-some (n, ks) g)
    by_stamp (Some m) f g =
        let pair = same_Some (m, u.keys) (n, ks) g in
        (u, refl, f ∙ ap (λ (p : ℕ × List (List ℕ)). Some p.0) pair, ap (λ (p : ℕ × List (List ℕ)). p.1) pair)

module _ (row : ℕ → Option Row) (writer : List ℕ → ℕ → Option ℕ) (last : ℕ) (judged : List (List ℕ))
    (indexed : IsIndexed (λ t. commit_in (row t)) writer last judged) (reading : Reading) where
  -- the write is one of a row that conflicts
  pub record Conflict (w : Write) (t : ℕ) : Type 0 where
    pub one : Row
    pub is_row : row t ≡ Some one
    pub stamped : one.stamp ≡ Some (suc w.before)
    pub conflicts : read_conflict reading.snapshot reading.low reading.high one ≡ true

  met_conflict : (w : Write) (t : ℕ) → writer w.key w.before ≡ Some t → is_met reading last w ≡ true → Conflict w t
  met_conflict w t e h =
      let a = and_parts (nat_le reading.snapshot w.before) _ h in
      let b = and_parts (nat_lt w.before last) _ a.1 in
      elim (indexed.only t w.before w.key e) [
        | inl wrote ↦
            let r = committed (row t) (suc w.before) wrote.keys wrote.is in
            let stamped = r.2 in
            let above = leb-true reading.snapshot w.before a.0 in
            let late : is_at_or_below r.0.stamp (Some reading.snapshot) ≡ false = ap
            (λ o. is_at_or_below o (Some reading.snapshot)) stamped ∙
            lt-leb (suc w.before) reading.snapshot (omega (arith, above)) in
            record {
              one = r.0;
              is_row = r.1;
              stamped = stamped;
              conflicts = and_from (is_some r.0.stamp) _ (ap is_some stamped) (and_from _ _ (not_from_false _ late)
                  (list_any_when (lies_in reading.low reading.high) r.0.keys w.key
                  (subst (λ ks. Contains ks w.key) (sym r.3) wrote.written) b.1));
            }
        | inr next ↦ absurd (let l = ltb-true w.before last b.0 in let e = next.0 in omega (arith, l, e))
      ]

  -- a write that is met
  pub record Meets (t : ℕ) (u : Row) : Type 0 where
    pub write : Write
    pub is_write : writer write.key write.before ≡ Some t
    pub is_met_by : is_met reading last write ≡ true

  conflict_met : (t : ℕ) (u : Row) → row t ≡ Some u → read_conflict reading.snapshot reading.low reading.high u ≡ true
      → Meets t u
  conflict_met t u e h =
      let a = and_parts (is_some u.stamp) _ h in
      let b = and_parts (not (is_at_or_below u.stamp (Some reading.snapshot))) _ a.1 in
      let n = some_value u.stamp a.0 in
      let k = list_any-source (lies_in reading.low reading.high) u.keys b.1 in
      let is : commit_in (row t) ≡ Some (n.0, u.keys) = ap commit_in e ∙ ap (option_map (λ m. (m, u.keys))) n.1 in
      let p = indexed.past t n.0 u.keys is in
      let late = leb-false n.0 reading.snapshot (sym (ap (λ o. is_at_or_below o (Some reading.snapshot)) n.1) ∙
      not-true _ b.0) in
      let next = p.next in
      record {
        write = record { key = k.0; before = p.before };
        is_write = indexed.found t p.before k.0 (record
            { keys = u.keys; is = is ∙ ap (λ m. Some (m, u.keys)) next; written = k.1 });
        is_met_by = and_from (nat_le reading.snapshot p.before) _
            (le-leb reading.snapshot p.before (omega (arith, late, next)))
            (and_from (nat_lt p.before last) _ (lt-ltb p.before last p.below) k.2);
      }

  taken : (b : Bool) (o : Option ℕ) (m : ℕ) → (if b then o else None) ≡ Some m → (b ≡ true) × (o ≡ Some m)
  taken true o m h = (refl, h)
  taken false o m h = absurd (none-some m h)

  abbrev pivot_by : Row → Bool
  pivot_by u = is_earlier u.first_out u.stamp

  gives_pivot : (t : ℕ) (u : Row) → row t ≡ Some u → read_pivot reading.snapshot reading.low reading.high u ≡ true
      → (m : Meets t u)
      → pivot_at row reading last (m.write, t) ≡ Some t
  gives_pivot t u e h m =
      cond-true _ (Some t) None (and_from _ _ m.is_met_by
      (ap (row_passes pivot_by) e ∙ (and_parts (read_conflict reading.snapshot reading.low reading.high u) _ h).1))

  pub smallest_row : (o : Option ℕ) → IsLowest writer (pivot_at row reading last) o
      → IsSmallestRow row (read_pivot reading.snapshot reading.low reading.high) o
  smallest_row None h = λ t u e. elim (cases_Bool (read_pivot reading.snapshot reading.low reading.high u)) [
    | inl is ↦
        let m = conflict_met t u e (and_parts (read_conflict reading.snapshot reading.low reading.high u) _ is).0 in
        absurd (none-some t (sym (h m.write t m.is_write) ∙ gives_pivot t u e is m))
    | inr is_not ↦ is_not
  ]
  smallest_row (Some p) h =
      let g = taken _ (Some h.txn) p h.gives in
      let both = and_parts (is_met reading last h.write) _ g.0 in
      let c = met_conflict h.write h.txn h.is_write both.0 in
      record {
        one = c.one;
        is_row = ap row (sym (same_Some h.txn p g.1)) ∙ c.is_row;
        passes = and_from (read_conflict reading.snapshot reading.low reading.high c.one) _ c.conflicts
            (sym (ap (row_passes pivot_by) c.is_row) ∙ both.1);
        smallest = λ t u e is.
            let m = conflict_met t u e (and_parts (read_conflict reading.snapshot reading.low reading.high u) _ is).0 in
            h.least m.write t t m.is_write (gives_pivot t u e is m);
      }

  gives_stamp : (t n : ℕ) (u : Row) → row t ≡ Some u → u.stamp ≡ Some n → (m : Meets t u)
      → stamp_at row reading last (m.write, t) ≡ Some n
  gives_stamp t n u e f m = cond-true _ (stamp_in (row t)) None m.is_met_by ∙ (ap stamp_in e ∙ f)

  pub least_stamp : (o : Option ℕ) → IsLowest writer (stamp_at row reading last) o
      → IsLeastStamp row (read_conflict reading.snapshot reading.low reading.high) o
  least_stamp None h = λ t u e. elim (cases_Bool (read_conflict reading.snapshot reading.low reading.high u)) [
    | inl is ↦
        let m = conflict_met t u e is in
        let n = some_value u.stamp (and_parts (is_some u.stamp) _ is).0 in
        absurd (none-some n.0 (sym (h m.write t m.is_write) ∙ gives_stamp t n.0 u e n.1 m))
    | inr is_not ↦ is_not
  ]
  least_stamp (Some b) h =
      let g = taken _ (stamp_in (row h.txn)) b h.gives in
      let c = met_conflict h.write h.txn h.is_write g.0 in
      record {
        who = h.txn;
        one = c.one;
        is_row = c.is_row;
        passes = c.conflicts;
        stamped = sym (ap stamp_in c.is_row) ∙ g.1;
        least = λ t n u e is f. let m = conflict_met t u e is in h.least m.write t n m.is_write
            (gives_stamp t n u e f m);
      }

-- ---- what is given of a write that is not met

pub unmet_pivot : (row : ℕ → Option Row) (reading : Reading) (last : ℕ) (e : Write × ℕ)
    → is_met reading last e.0 ≡ false → pivot_at row reading last e ≡ None
unmet_pivot row reading last e h =
    cond-false _ (Some e.1) None (ap (λ b. b && row_passes (λ u. is_earlier u.first_out u.stamp) (row e.1)) h)

pub unmet_stamp : (row : ℕ → Option Row) (reading : Reading) (last : ℕ) (e : Write × ℕ)
    → is_met reading last e.0 ≡ false → stamp_at row reading last e ≡ None
unmet_stamp row reading last e h = cond-false _ (stamp_in (row e.1)) None h
