-- Marks of ranges by transaction and by prefix.
use Rattle.std.proofs.Common.{◌≡◌, ℕ, suc, ◌==◌, Bool, true, false, true≢false, cond, not, ◌&&◌, ◌||◌, List, length, Option, Some, None, refl, sym, ◌∙◌, ap, subst, inl, inr}
use Rattle.std.specs.List.{list_any, Contains}
use Rattle.std.specs.Ordering.{nat_cmp, is_eq}
use Rattle.std.specs.declared.cmp.Ordering.{Ordering}
use Rattle.std.specs.BTreeMap.{BTreeMap, get}
use Rattle.std.specs.BTreeSet.{BTreeSet, contains}
use Rattle.std.proofs.lemmas.Bool.{cases_Bool, cases_eq, eq-eqb, ne_eqb, eqb-true, cond-true, cond-false, and_parts, and_from, or_cases, or_left, or_right}
use Rattle.adya_keys.specs.Meaning.Keys.{lies_in}
use Rattle.lemmas.proofs.Booleans.{same_test}
use Rattle.lemmas.proofs.Tests.{list_any-source, list_any_when}
use Rattle.ssi_reads.specs.declared.span.Mark.{Mark}
use Rattle.ssi_reads.specs.declared.place.Place.{Place}
use Rattle.ssi_reads.specs.declared.range_marks.RangeMarks.{RangeMarks}
use Rattle.ssi_reads.specs.Machinery.Prefixes.{prefixes, prefix_cmp, mark_cmp, place_cmp, begins, covers}
use Rattle.ssi_reads.specs.Machinery.Ranged.{mark_of, mark_in, filed, place_in, any_place_in, any_place, ranged, HasMorePlaces, HasSamePlaces, HasMoreMarks, HasSameMarks, HasOthers, counts, any_counts_in, under, met}
use Rattle.ssi_reads.proofs.Numbers.{cond_or, txn_at, is_eq-nat_cmp, same_txn}
use Rattle.ssi_reads.proofs.Compared.{prefix_itself, same_prefix, mark_itself, same_mark, place_itself, same_place}
use Rattle.ssi_reads.proofs.Maps.{has_more, has_same}

-- ---- a set by its list

module _ {K : Type 0} (R : K → K → Ordering) (itself : (x : K) → is_eq (R x x) ≡ true)
    (exact : (x y : K) → is_eq (R x y) ≡ true → x ≡ y) where
  pub has_listed : (s : BTreeSet K) (x : K) → Contains s.keys x → contains R s x ≡ true
  has_listed s x c = list_any_when (λ y. is_eq (R x y)) s.keys x c (itself x)

  pub listed_held : (s : BTreeSet K) (x : K) → contains R s x ≡ true → Contains s.keys x
  listed_held s x h =
      let found = list_any-source (λ y. is_eq (R x y)) s.keys h in
      subst (Contains s.keys) (sym (exact x found.0 found.2)) found.1

  -- a set that takes x: a test passes at x or at a member that it had
  pub any_taken : (x : K) (s t : BTreeSet K) → ((q : K) → contains R t q ≡ cond (is_eq (R x q)) true (contains R s q))
      → (f : K → Bool) → list_any f t.keys ≡ (f x || list_any f s.keys)
  any_taken x s t put f =
      same_test (list_any f t.keys) (f x || list_any f s.keys)
      (λ h.
      let found = list_any-source f t.keys h in
      elim (or_cases (is_eq (R x found.0)) _ (sym (cond_or (is_eq (R x found.0)) (contains R s found.0)) ∙ (sym (put found.0) ∙ has_listed t found.0 found.1))) [
        | inl e ↦ or_left _ _ (ap f (exact x found.0 e) ∙ found.2)
        | inr o ↦ or_right _ _ (list_any_when f s.keys found.0 (listed_held s found.0 o) found.2)
      ])
      (λ h.
      elim (or_cases (f x) _ h) [
        | inl e ↦ list_any_when f t.keys x (listed_held t x (put x ∙ cond-true _ _ _ (itself x))) e
        | inr o ↦
            let found = list_any-source f s.keys o in
            list_any_when f t.keys found.0
            (listed_held t found.0 (put found.0 ∙ (cond_or (is_eq (R x found.0)) _ ∙ or_right _ _ (has_listed s found.0 found.1)))) found.2
      ])

-- ---- the maps

-- the places under one transaction change
module _ (t : ℕ) (m n : BTreeMap ℕ (BTreeSet Place)) (old new : Option (BTreeSet Place)) (was : get nat_cmp m t ≡ old)
    (put : (u : ℕ) → get nat_cmp n u ≡ cond (is_eq (nat_cmp t u)) new (get nat_cmp m u)) where
  pub places_more : (p : Place) → ((f : Place → Bool) → any_place_in new f ≡ (f p || any_place_in old f))
      → HasMorePlaces t p m n
  places_more p more =
      has_more any_place_in (λ q. is_eq (nat_cmp t q)) t (same_txn t) (get nat_cmp m) (get nat_cmp n) old new was put
      (λ f. f p) more

  pub places_same : ((f : Place → Bool) → any_place_in new f ≡ any_place_in old f) → HasSamePlaces m n
  places_same same u f =
      has_same any_place_in (λ q. is_eq (nat_cmp t q)) t (same_txn t) (get nat_cmp m) (get nat_cmp n) old new was put f (same f) u

-- the marks under one prefix change
module _ (r : Option (List ℕ)) (m n : BTreeMap (Option (List ℕ)) (BTreeSet Mark)) (old new : Option (BTreeSet Mark))
    (was : get prefix_cmp m r ≡ old)
    (put : (q : Option (List ℕ)) → get prefix_cmp n q ≡ cond (is_eq (prefix_cmp r q)) new (get prefix_cmp m q)) where
  pub marks_more : (y : Mark) → ((x : Mark) → mark_in new x ≡ cond (is_eq (mark_cmp y x)) true (mark_in old x))
      → HasMoreMarks r y m n
  marks_more y more =
      has_more mark_in (λ q. is_eq (prefix_cmp r q)) r (same_prefix r) (get prefix_cmp m) (get prefix_cmp n) old new was put
      (λ x. is_eq (mark_cmp y x)) (λ x. more x ∙ cond_or (is_eq (mark_cmp y x)) (mark_in old x))

  pub marks_same : (x : Mark) → mark_in new x ≡ mark_in old x → (q : Option (List ℕ)) → filed n q x ≡ filed m q x
  marks_same =
      has_same mark_in (λ q. is_eq (prefix_cmp r q)) r (same_prefix r) (get prefix_cmp m) (get prefix_cmp n) old new was put

-- ---- a range that is marked, refused or forgotten

and_false : (b c : Bool) → c ≡ false → (b && c) ≡ false
and_false true c e = e
and_false false c e = refl

module _ (m n : RangeMarks) (u : ℕ) (k : List ℕ) where
  abbrev was : Place → Bool
  was q = covers q k && filed m.marks q.prefix (mark_of q u)

  abbrev now : Place → Bool
  now q = covers q k && filed n.marks q.prefix (mark_of q u)

  -- where each place counts as before
  alike : ((q : Place) → now q ≡ was q) → any_place m.places u now ≡ ranged m u k
  alike same = ap (any_place m.places u) (λ i q. same q i)

  -- one more place that doesn't count
  added_none : (t : ℕ) (p : Place) → HasMorePlaces t p m.places n.places → (t ≡ u → now p ≡ false)
      → ((q : Place) → now q ≡ was q) → ranged n u k ≡ ranged m u k
  added_none t p more none same =
      more u now ∙
      (ap (λ b. b || any_place m.places u now)
      (elim (cases_Bool (is_eq (nat_cmp t u))) [
        | inl e ↦ and_false (is_eq (nat_cmp t u)) (now p) (none (same_txn t u e))
        | inr e ↦ ap (λ b. b && now p) e
      ]) ∙ alike same)

  pub range_marked : (t : ℕ) (low high : List ℕ) (p : Place) → covers p k ≡ lies_in low high k
      → HasMorePlaces t p m.places n.places → HasMoreMarks p.prefix (mark_of p t) m.marks n.marks
      → ranged n u k ≡ (((u == t) && lies_in low high k) || ranged m u k)
  range_marked t low high p over more filed_more =
      elim (cases_Bool ((u == t) && lies_in low high k)) [
        | inl yes' ↦
            let parts = and_parts (u == t) _ yes' in
            let at : u ≡ t = eqb-true u t parts.0 in
            let mark : is_eq (mark_cmp (mark_of p t) (mark_of p u)) ≡ true =
            subst (λ x. is_eq (mark_cmp (mark_of p t) (mark_of p x)) ≡ true) (sym at) (mark_itself (mark_of p t)) in
            let here : now p ≡ true =
            and_from _ _ (over ∙ parts.1)
            (filed_more p.prefix (mark_of p u) ∙ or_left _ _ (and_from _ _ (prefix_itself p.prefix) mark)) in
            more u now ∙ (or_left _ _ (and_from _ _ (txn_at t u ∙ parts.0) here) ∙ sym (ap (λ b. b || ranged m u k) yes'))
        | inr no' ↦
            let apart : t ≡ u → covers p k ≡ false =
            λ e. over ∙ (sym (ap (λ b. b && lies_in low high k) (eq-eqb u t (sym e))) ∙ no') in
            added_none t p more (λ e. ap (λ b. b && filed n.marks p.prefix (mark_of p u)) (apart e)) (unless apart) ∙
            sym (ap (λ b. b || ranged m u k) no')
      ]
    where
      unless : (t ≡ u → covers p k ≡ false) → (q : Place) → now q ≡ was q
      unless apart q =
          elim (cases_Bool (is_eq (prefix_cmp p.prefix q.prefix) && is_eq (mark_cmp (mark_of p t) (mark_of q u)))) [
            | inl e ↦
                let both = and_parts (is_eq (prefix_cmp p.prefix q.prefix)) _ e in
                let prefix = same_prefix p.prefix q.prefix both.0 in
                let mark = same_mark (mark_of p t) (mark_of q u) both.1 in
                let place : p ≡ q = λ i. record { prefix = prefix i; span = (mark i).span } in
                let none : covers q k ≡ false = ap (λ x. covers x k) (sym place) ∙ apart (λ i. (mark i).txn) in
                ap (λ b. b && filed n.marks q.prefix (mark_of q u)) none ∙
                sym (ap (λ b. b && filed m.marks q.prefix (mark_of q u)) none)
            | inr e ↦ ap (λ b. covers q k && b) (filed_more q.prefix (mark_of q u) ∙ ap (λ b. b || filed m.marks q.prefix (mark_of q u)) e)
          ]

  pub range_refused : (t : ℕ) (p : Place) → HasMorePlaces t p m.places n.places → HasSameMarks m.marks n.marks
      → filed m.marks p.prefix (mark_of p t) ≡ false → ranged n u k ≡ ranged m u k
  range_refused t p more same absent =
      added_none t p more
      (λ e. and_false (covers p k) _ (same p.prefix (mark_of p u) ∙ subst (λ x. filed m.marks p.prefix (mark_of p x) ≡ false) e absent))
      (λ q. ap (λ b. covers q k && b) (same q.prefix (mark_of q u)))

  pub range_forgotten : (t : ℕ) → get nat_cmp n.places u ≡ cond (is_eq (nat_cmp t u)) None (get nat_cmp m.places u)
      → HasOthers t m.marks n.marks → ranged n u k ≡ (not (u == t) && ranged m u k)
  range_forgotten t gone others =
      ap (λ o. any_place_in o now) gone ∙
      elim (cases_eq u t) [
        | inl e ↦
            ap (λ o. any_place_in o now) (cond-true _ None (get nat_cmp m.places u) (txn_at t u ∙ eq-eqb u t e)) ∙
            sym (ap (λ b. not b && ranged m u k) (eq-eqb u t e))
        | inr ne ↦
            ap (λ o. any_place_in o now) (cond-false _ None (get nat_cmp m.places u) (txn_at t u ∙ ne_eqb u t ne)) ∙
            (alike (λ q. ap (λ b. covers q k && b) (others q.prefix (mark_of q u) ne)) ∙
            sym (ap (λ b. not b && ranged m u k) (ne_eqb u t ne)))
      ]

-- ---- who has a mark over a key

-- the turn of a loop over marks: the first of them counts
pub mark_taken : (t u : ℕ) (covers rest found found' whole : Bool) → covers ≡ true
    → found' ≡ cond (is_eq (nat_cmp t u)) true found
    → (((is_eq (nat_cmp u t) && covers) || rest) || found) ≡ whole → (rest || found') ≡ whole
mark_taken t u false rest found found' whole c e inv = absurd (true≢false (sym c))
mark_taken t u true rest found found' whole c e inv =
    ap (λ b. rest || b) (e ∙ (cond_or (is_eq (nat_cmp t u)) found ∙ ap (λ b. b || found) (txn_at t u ∙ sym (is_eq-nat_cmp u t)))) ∙
    (moved (is_eq (nat_cmp u t)) rest found ∙ inv)
  where
    moved : (a b c : Bool) → (b || (a || c)) ≡ (((a && true) || b) || c)
    moved true true c = refl
    moved true false c = refl
    moved false true c = refl
    moved false false c = refl

-- the same if it doesn't count
pub mark_passed : (a counts rest found whole : Bool) → counts ≡ false → (((a && counts) || rest) || found) ≡ whole
    → (rest || found) ≡ whole
mark_passed a true rest found whole c inv = absurd (true≢false c)
mark_passed true false rest found whole c inv = inv
mark_passed false false rest found whole c inv = inv

module _ (m : RangeMarks) (k : List ℕ) (u : ℕ) where
  abbrev is_met : Bool
  is_met = met m k u (suc (length k))

  abbrev is_ranged : Bool
  is_ranged = ranged m u k

  abbrev passes : Place → Bool
  passes p = covers p k && filed m.marks p.prefix (mark_of p u)

  -- a mark that counts is one of the transaction's places
  from_mark : (q : Option (List ℕ)) → Contains (prefixes k (suc (length k))) q → (o : Option (BTreeSet Mark))
      → get prefix_cmp m.marks q ≡ o → any_counts_in m.places q k u o ≡ true → is_ranged ≡ true
  from_mark q c None e h = absurd (true≢false (sym h))
  from_mark q c (Some s) e h =
      let found = list_any-source (λ x. is_eq (nat_cmp u x.txn) && counts m.places q k x) s.keys h in
      let x = found.0 in
      let parts = and_parts (is_eq (nat_cmp u x.txn)) _ found.2 in
      let both = and_parts (lies_in x.span.low x.span.high k) _ parts.1 in
      let at : u ≡ x.txn = same_txn u x.txn parts.0 in
      let p : Place = record { prefix = q; span = x.span } in
      let stands : filed m.marks q (mark_of p u) ≡ true =
      ap (λ o. mark_in o (mark_of p u)) e ∙
      has_listed mark_cmp mark_itself same_mark s (mark_of p u) (subst (Contains s.keys) (λ i. record { span = x.span; txn = sym at i }) found.1) in
      let over : covers p k ≡ true =
      and_from _ _ (list_any_when (λ r. is_eq (prefix_cmp r q)) (prefixes k (suc (length k))) q c (prefix_itself q)) both.0 in
      held_counts (get nat_cmp m.places u) refl p (ap (λ t. place_in (get nat_cmp m.places t) p) at ∙ both.1) (and_from _ _ over stands)
    where
      held_counts : (o : Option (BTreeSet Place)) → get nat_cmp m.places u ≡ o → (p : Place) → place_in (get nat_cmp m.places u) p ≡ true
          → passes p ≡ true → is_ranged ≡ true
      held_counts None e p held pass = absurd (true≢false (sym (sym (ap (λ o. place_in o p) e) ∙ held)))
      held_counts (Some s) e p held pass =
          ap (λ o. any_place_in o passes) e ∙
          list_any_when passes s.keys p
          (listed_held place_cmp place_itself same_place s p (sym (ap (λ o. place_in o p) e) ∙ held)) pass

  -- a place that covers the key stands under one of the key's prefixes
  from_place : (o : Option (BTreeSet Place)) → get nat_cmp m.places u ≡ o → any_place_in o passes ≡ true → is_met ≡ true
  from_place None e h = absurd (true≢false (sym h))
  from_place (Some s) e h =
      let found = list_any-source passes s.keys h in
      let p = found.0 in
      let parts = and_parts (covers p k) _ found.2 in
      let over = and_parts (begins k p.prefix) _ parts.0 in
      let prefix = list_any-source (λ r. is_eq (prefix_cmp r p.prefix)) (prefixes k (suc (length k))) over.0 in
      let held : place_in (get nat_cmp m.places u) p ≡ true =
      ap (λ o. place_in o p) e ∙ has_listed place_cmp place_itself same_place s p found.1 in
      list_any_when (under m k u) (prefixes k (suc (length k))) p.prefix
      (subst (Contains (prefixes k (suc (length k)))) (same_prefix prefix.0 p.prefix prefix.2) prefix.1)
      (to_mark p (get prefix_cmp m.marks p.prefix) refl over.1 held parts.1)
    where
      to_mark : (p : Place) (o : Option (BTreeSet Mark)) → get prefix_cmp m.marks p.prefix ≡ o
          → lies_in p.span.low p.span.high k ≡ true → place_in (get nat_cmp m.places u) p ≡ true
          → filed m.marks p.prefix (mark_of p u) ≡ true → under m k u p.prefix ≡ true
      to_mark p None e over held stands = absurd (true≢false (sym (sym (ap (λ o. mark_in o (mark_of p u)) e) ∙ stands)))
      to_mark p (Some s) e over held stands =
          ap (any_counts_in m.places p.prefix k u) e ∙
          list_any_when (λ x. is_eq (nat_cmp u x.txn) && counts m.places p.prefix k x) s.keys (mark_of p u)
          (listed_held mark_cmp mark_itself same_mark s (mark_of p u) (sym (ap (λ o. mark_in o (mark_of p u)) e) ∙ stands))
          (and_from _ _ (is_eq-nat_cmp u u ∙ eq-eqb u u refl) (and_from _ _ over held))

  -- the walk over the key's prefixes meets each of its marks
  pub met_is_ranged : is_met ≡ is_ranged
  met_is_ranged =
      same_test is_met is_ranged
      (λ h.
      let found = list_any-source (under m k u) (prefixes k (suc (length k))) h in
      from_mark found.0 found.1 (get prefix_cmp m.marks found.0) refl found.2)
      (λ h. from_place (get nat_cmp m.places u) refl h)
