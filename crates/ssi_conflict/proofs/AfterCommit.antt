-- What a commit changes.
use Rattle.std.proofs.Common.{◌≡◌, ◌≢◌, ℕ, ◌<◌, ◌≤◌, ◌==◌, Bool, true, false, true≢false, not, ◌&&◌, ◌||◌, List, [], ◌∷◌, Option, Some, None, is_some, refl, sym, ◌∙◌, ap, subst, arith, inl, inr}
use Rattle.std.specs.List.{list_any}
use Rattle.std.proofs.lemmas.Bool.{eqb-true, eq-eqb, ne_eqb, cases_eq, cases_Bool, and_parts, and_from, not-true, leb-true, le-leb, both_ways}
use Rattle.ssi_conflict.specs.Meaning.Calls.{Call, Commits, snapshot_of, stamp_of, is_committed, is_aborted, is_open, meets, is_at_or_below, precedes, are_concurrent}
use Rattle.ssi_conflict.specs.Clauses.Allowed.{AreAllowed}
use Rattle.ssi_conflict.specs.Clauses.Pairs.{IsPair, IsAtMost, IsOrderedPivot}
use Rattle.ssi_conflict.specs.Computing.Steps.{adds, is_no_later}
use Rattle.ssi_conflict.specs.Meaning.Kept.{is_kept}
use Rattle.ssi_conflict.specs.Machinery.Rows.{Row, IsLeast, Tells, StandsFor, with_later, closed, commit_conflict, commit_pivot}
use Rattle.ssi_conflict.proofs.AllowedCalls.{unstamped, open_parts, open_from, kept_parts, kept_open, kept_after, stamps_below, reader_begun}
use Rattle.ssi_conflict.proofs.PairsByCall.{apart_parts, same_stamp, same_keys, own_stamp, own_keys, new_above, not_committed_yet, pair_before_commit, pair_of_commit, pair_after_commit}
use Rattle.ssi_conflict.proofs.LeastStamps.{least_carried, least_either}
use Rattle.lemmas.proofs.Options.{some_value}
use Rattle.lemmas.proofs.Tests.{list_any-source}
use Rattle.ssi_conflict.specs.Machinery.Tables.{met}
use Rattle.std.proofs.lemmas.Option.{same_Some}

pub list_any_same : {A : Type 0} (p q : A → Bool) (xs : List A) → ((x : A) → p x ≡ q x) → list_any p xs ≡ list_any q xs
list_any_same p q [] h = refl
list_any_same p q (x ∷ xs) h = ap (λ b. b || list_any p xs) (h x) ∙ ap (λ b. q x || b) (list_any_same p q xs h)

at_most_from : (b : ℕ) (o : Option ℕ) → is_no_later (Some b) o ≡ true → IsAtMost b o
at_most_from b None h = tt
at_most_from b (Some a) h = leb-true b a h

no_later_from : (b c : ℕ) (o : Option ℕ) → b ≤ c → IsAtMost c o → is_no_later (Some b) o ≡ true
no_later_from b c None l h = refl
no_later_from b c (Some a) l h = le-leb b a (omega (arith, l, h))

module _ (t n : ℕ) (ks : List (List ℕ)) (calls : List Call) (ok : AreAllowed (Commits t n ks ∷ calls)) where
  pub by_writer : (r u : ℕ) → adds (Commits t n ks) calls r u ≡ true → t ≡ u
  by_writer r u h = eqb-true t u (and_parts (t == u) _ h).0

  pub not_own : (r : ℕ) → adds (Commits t n ks) calls r t ≡ true → r ≢ t
  not_own r h e =
      let a = and_parts (t == t) _ h in
      let b = and_parts (not (is_aborted r calls)) _ a.1 in
      let d = and_parts (are_concurrent r t (Commits t n ks ∷ calls)) _ b.1 in
      both_ways _ (apart_parts r t (Commits t n ks ∷ calls) d.0).differ (eq-eqb r t e)

  -- the second of an earlier pair committed earlier
  pub second_stamp : (r u : ℕ) → IsPair r u calls → stamp_of u (Commits t n ks ∷ calls) ≡ stamp_of u calls
  second_stamp r u p = same_stamp t n ks calls ok u (not_committed_yet t n ks calls ok r u p)

  stamp_below : (u m : ℕ) → stamp_of u calls ≡ Some m → m < n
  stamp_below u m e = let l = stamps_below calls ok.1 u m e in let next = ok.0.next in omega (arith, l, next)

  -- a commit makes no pivot but of its own transaction, with an earlier pair out of it and a new pair into it
  pub record Own (q : ℕ) : Type 0 where
    pub is_own : t ≡ q
    pub from : ℕ
    pub into : adds (Commits t n ks) calls from t ≡ true
    pub to : ℕ
    pub out : IsPair t to calls
    pub last : ℕ
    pub last_stamped : stamp_of to calls ≡ Some last
    pub not_after : IsAtMost last (stamp_of from calls)

  pub own_pivot : ((q : ℕ) → IsOrderedPivot q calls → ⊥) → (q : ℕ) → IsOrderedPivot q (Commits t n ks ∷ calls) → Own q
  own_pivot none q p =
      elim (cases_eq t q) [
        | inl e ↦
            let into' : IsPair p.from t (Commits t n ks ∷ calls) = subst
            (λ x. IsPair p.from x (Commits t n ks ∷ calls)) (sym e) p.into in
            let out' : IsPair t p.to (Commits t n ks ∷ calls) = subst (λ x. IsPair x p.to (Commits t n ks ∷ calls))
            (sym e) p.out in
            let out : IsPair t p.to calls = elim (pair_before_commit t n ks calls ok t p.to out') [
              | inl now ↦ (let f = by_writer t p.to now in absurd
                  (not_own t (subst (λ x. adds (Commits t n ks) calls t x ≡ true) (sym f) now) refl))
              | inr was ↦ was
            ] in
            let into : adds (Commits t n ks) calls p.from t ≡ true = elim
            (pair_before_commit t n ks calls ok p.from t into') [
              | inl now ↦ now
              | inr was ↦ absurd (not_committed_yet t n ks calls ok p.from t was refl)
            ] in
            record {
              is_own = e;
              from = p.from;
              into = into;
              to = p.to;
              out = out;
              last = p.last;
              last_stamped = sym (second_stamp t p.to out) ∙ p.to_committed;
              not_after = subst (IsAtMost p.last) (same_stamp t n ks calls ok p.from
                  (λ f. not_own p.from into (sym f))) p.not_after_first;
            }
        | inr ne ↦
            let stamped : stamp_of q calls ≡ Some p.middle = sym (same_stamp t n ks calls ok q ne) ∙ p.committed in
            let below = stamp_below q p.middle stamped in
            let earlier = p.before_middle in
            let into : IsPair p.from q calls = elim (pair_before_commit t n ks calls ok p.from q p.into) [
              | inl now ↦ absurd (ne (by_writer p.from q now))
              | inr was ↦ was
            ] in
            let other : t ≢ p.to = λ e. let same = same_Some n p.last
            (sym (subst (λ x. stamp_of x (Commits t n ks ∷ calls) ≡ Some n) e (own_stamp t n ks calls ok)) ∙
            p.to_committed) in omega (arith, same, below, earlier) in
            let out : IsPair q p.to calls = elim (pair_before_commit t n ks calls ok q p.to p.out) [
              | inl now ↦ absurd (other (by_writer q p.to now))
              | inr was ↦ was
            ] in
            let not_after : IsAtMost p.last (stamp_of p.from calls) = elim (cases_eq t p.from) [
              | inl e ↦ subst (IsAtMost p.last) (sym
                  (subst (λ x. stamp_of x calls ≡ None) e (unstamped t calls ok.0.opened))) tt
              | inr apart ↦ subst (IsAtMost p.last) (same_stamp t n ks calls ok p.from apart) p.not_after_first
            ] in
            absurd (none q (record {
              middle = p.middle;
              committed = stamped;
              from = p.from;
              into = into;
              to = p.to;
              out = out;
              last = p.last;
              to_committed = sym (second_stamp q p.to out) ∙ p.to_committed;
              before_middle = p.before_middle;
              not_after_first = not_after;
            }))
      ]

  pub reader_is_kept : (r : ℕ) → adds (Commits t n ks) calls r t ≡ true → is_kept r calls ≡ true
  reader_is_kept r h =
      let a = and_parts (t == t) _ h in
      let b = and_parts (not (is_aborted r calls)) _ a.1 in
      let d = and_parts (are_concurrent r t (Commits t n ks ∷ calls)) _ b.1 in
      let ne = not_own r h in
      let later : precedes r t calls ≡ false = ap (λ x. is_at_or_below x (snapshot_of t calls))
      (sym (same_stamp t n ks calls ok r (λ e. ne (sym e)))) ∙
      (apart_parts r t (Commits t n ks ∷ calls) d.0).not_before in
      let k = list_any-source (λ k. meets r k calls) ks d.1 in
      elim (cases_Bool (is_committed r calls)) [
        | inl committed ↦ kept_after r calls (record
            { committed = committed; other = t; other_open = ok.0.opened; later = later })
        | inr uncommitted ↦ kept_open r calls (open_from r calls
            (record {
              is_begun = reader_begun calls ok.1 r k.0 k.2;
              uncommitted = uncommitted;
              unaborted = not-true _
                  b.0;
            }))
      ]

  open_before_commit : (q : ℕ) → is_open q (Commits t n ks ∷ calls) ≡ true → (is_open q calls ≡ true) × (t ≢ q)
  open_before_commit q h =
      let o = open_parts q (Commits t n ks ∷ calls) h in
      let ne : t ≢ q = λ e. both_ways _ o.uncommitted (ap is_some
      (subst (λ x. stamp_of x (Commits t n ks ∷ calls) ≡ Some n) e (own_stamp t n ks calls ok))) in (
        open_from q calls (record {
          is_begun = o.is_begun;
          uncommitted = sym
              (ap is_some (same_stamp t n ks calls ok q ne)) ∙ o.uncommitted;
          unaborted = o.unaborted;
        }),
        ne,
      )

  pub kept_before_commit : (q : ℕ) → is_kept q (Commits t n ks ∷ calls) ≡ true → is_kept q calls ≡ true
  kept_before_commit q h =
      elim (cases_eq t q) [
        | inl e ↦ kept_open q calls (subst (λ x. is_open x calls ≡ true) e ok.0.opened)
        | inr ne ↦
            elim (kept_parts q (Commits t n ks ∷ calls) h) [
              | inl o ↦ kept_open q calls (open_before_commit q o).0
              | inr w ↦ kept_after q calls (record {
                committed = sym (ap is_some (same_stamp t n ks calls ok q ne)) ∙ w.committed;
                other = w.other;
                other_open = (open_before_commit w.other w.other_open).0;
                later = ap (λ x. is_at_or_below x (snapshot_of w.other calls)) (sym (same_stamp t n ks calls ok q ne))
                    ∙ w.later;
              })
            ]
      ]

module _ (row : ℕ → Option Row) (marked : ℕ → List ℕ → Bool) (calls : List Call) (stands : StandsFor row marked calls)
    (t n : ℕ) (ks : List (List ℕ)) (ok : AreAllowed (Commits t n ks ∷ calls)) (u : Row) (own : row t ≡ Some u)
    (readers : ℕ → Bool) (known : (r : ℕ) → readers r ≡ list_any (marked r) ks) where
  seen : snapshot_of t calls ≡ Some u.snapshot
  seen = (stands.tells t u own).is_begun

  has_read : (r : ℕ) (v : Row) → row r ≡ Some v → list_any (λ k. meets r k calls) ks ≡ readers r
  has_read r v e = list_any_same (λ k. meets r k calls) (marked r) ks
      (λ k. sym (stands.marks r k ∙ ap (λ o. is_some o && meets r k calls) e)) ∙ sym (known r)

  pub commit_conflict_is : (r : ℕ) (v : Row) → row r ≡ Some v
      → adds (Commits t n ks) calls r t ≡ commit_conflict t u.snapshot readers r v
  commit_conflict_is r v e =
      let w = stands.tells r v e in
      elim (cases_eq r t) [
        | inl f ↦ rw (eq-eqb t t refl, w.unaborted, eq-eqb r t f) refl
        | inr ne ↦
            let apart : t ≢ r = λ f. ne (sym f) in
            rw (
              eq-eqb t t refl,
              w.unaborted,
              ne_eqb r t ne,
              same_stamp t n ks calls ok r apart,
              new_above t n ks
                  calls ok r,
              seen,
              w.stamped,
              has_read r v e,
            ) (
            by_cases (is_at_or_below v.stamp (Some u.snapshot)) (readers r))
      ]
    where
      by_cases : (a b : Bool) → ((not a && true) && b) ≡ (not a && b)
      by_cases true b = refl
      by_cases false b = refl

  -- judged: no row passes, or some row does
  pub commit_safe : ((r : ℕ) (v : Row) → row r ≡ Some v → commit_pivot t u.snapshot readers u.first_out r v ≡ false)
      → (q : ℕ) → IsOrderedPivot q (Commits t n ks ∷ calls) → ⊥
  commit_safe h q p =
      let o = own_pivot t n ks calls ok stands.no_pivot q p in
      let r = some_value (row o.from) (stands.keeps o.from (reader_is_kept t n ks calls ok o.from o.into)) in
      both_ways _ (h o.from r.0 r.1) (and_from (commit_conflict t u.snapshot readers o.from r.0) _
      (sym (commit_conflict_is o.from r.0 r.1) ∙ o.into)
      (by_first o r.0 (stands.tells o.from r.0 r.1) u.first_out (stands.tells t u own).leads_to))
    where
      by_first : (o : Own t n ks calls ok q) (v : Row) → Tells calls o.from v → (f : Option ℕ)
          → IsLeast (λ x. IsPair t x calls) calls f → is_no_later f v.stamp ≡ true
      by_first o v w None l = absurd (l o.to o.out)
      by_first o v w (Some b) l = no_later_from b o.last v.stamp (l.least o.to o.last o.out o.last_stamped)
          (subst (IsAtMost o.last) w.stamped o.not_after)

  pub commit_unsafe : (r : ℕ) (v : Row) → row r ≡ Some v → commit_pivot t u.snapshot readers u.first_out r v ≡ true
      → IsOrderedPivot t (Commits t n ks ∷ calls) × ((q : ℕ) → IsOrderedPivot q (Commits t n ks ∷ calls) → t ≤ q)
  commit_unsafe r v e h =
      let a = and_parts (commit_conflict t u.snapshot readers r v) _ h in (
        by_first u.first_out (stands.tells t u own).leads_to (commit_conflict_is r v e ∙ a.0)
            (stands.tells r v e).stamped a.1,
        λ q p. let o = (own_pivot t n ks calls ok stands.no_pivot q p).is_own in omega (arith, o),
      )
    where
      by_first : (f : Option ℕ) → IsLeast (λ x. IsPair t x calls) calls f → adds (Commits t n ks) calls r t ≡ true
          → stamp_of r calls ≡ v.stamp → is_no_later f v.stamp ≡ true → IsOrderedPivot t (Commits t n ks ∷ calls)
      by_first None l i s m = absurd (true≢false (sym m))
      by_first (Some b) l i s m = record {
        middle = n;
        committed = own_stamp t n ks calls ok;
        from = r;
        into = pair_of_commit t n ks calls ok r t i;
        to = l.who;
        out = pair_after_commit t n ks calls ok t l.who l.is_one;
        last = b;
        to_committed = second_stamp t n ks calls ok t l.who l.is_one ∙ l.stamped;
        before_middle = (let x = stamps_below calls ok.1 l.who b l.stamped in let next = ok.0.next in omega
            (arith, x, next));
        not_after_first = subst (IsAtMost b) (sym
            (same_stamp t n ks calls ok r (λ f. not_own t n ks calls ok r i (sym f)) ∙ s)) (at_most_from b v.stamp m);
      }

  own_after : Tells (Commits t n ks ∷ calls) t (closed n ks u)
  own_after = let w = stands.tells t u own in record {
    is_begun = w.is_begun;
    stamped = own_stamp t n ks calls ok;
    unaborted = w.unaborted;
    wrote = own_keys t n ks calls ok;
    leads_to = least_carried (λ x. IsPair t x calls) (λ x. IsPair t x (Commits t n ks ∷ calls)) calls
        (Commits t n ks ∷ calls) u.first_out
        (λ x p. pair_after_commit t n ks calls ok t x p)
        (λ x p. elim (pair_before_commit t n ks calls ok t x p) [
          | inl now ↦ (let f = by_writer t n ks calls ok t x now in absurd
              (not_own t n ks calls ok t (subst (λ y. adds (Commits t n ks) calls t y ≡ true) (sym f) now) refl))
          | inr was ↦ was
        ])
        (λ x p. second_stamp t n ks calls ok t x p) w.leads_to;
  }

  reader_after : (r : ℕ) (v : Row) → row r ≡ Some v → commit_conflict t u.snapshot readers r v ≡ true
      → Tells (Commits t n ks ∷ calls) r (with_later n v)
  reader_after r v e h =
      let w = stands.tells r v e in
      let now' = commit_conflict_is r v e ∙ h in
      let ne : t ≢ r = λ f. not_own t n ks calls ok r now' (sym f) in
      record {
        is_begun = w.is_begun;
        stamped = same_stamp t n ks calls ok r ne ∙ w.stamped;
        unaborted = w.unaborted;
        wrote = same_keys t n ks calls ok r ne ∙ w.wrote;
        leads_to = least_either (λ x. IsPair r x calls) (λ x. t ≡ x) (λ x. IsPair r x (Commits t n ks ∷ calls))
            (Commits t n ks ∷ calls) v.first_out (Some n)
            (λ x p. pair_after_commit t n ks calls ok r x p)
            (λ x f. subst (λ y. IsPair r y (Commits t n ks ∷ calls)) f (pair_of_commit t n ks calls ok r t now'))
            (λ x p. elim (pair_before_commit t n ks calls ok r x p)
            [ inl now ↦ inr (by_writer t n ks calls ok r x now) | inr was ↦ inl was ])
            (least_carried (λ x. IsPair r x calls) (λ x. IsPair r x calls) calls (Commits t n ks ∷ calls) v.first_out
            (λ x p. p) (λ x p. p) (λ x p. second_stamp t n ks calls ok r x p) w.leads_to)
            (record {
              who = t;
              is_one = refl;
              stamped = own_stamp t n ks calls ok;
              least = λ x m f g. let same = same_Some n m (sym (own_stamp t n ks calls ok) ∙
                  (ap (λ y. stamp_of y (Commits t n ks ∷ calls)) f ∙ g)) in omega (arith, same);
            });
      }

  other_after : (r : ℕ) (v : Row) → row r ≡ Some v → t ≢ r → commit_conflict t u.snapshot readers r v ≡ false
      → Tells (Commits t n ks ∷ calls) r v
  other_after r v e ne h =
      let w = stands.tells r v e in
      record {
        is_begun = w.is_begun;
        stamped = same_stamp t n ks calls ok r ne ∙ w.stamped;
        unaborted = w.unaborted;
        wrote = same_keys t n ks calls ok r ne ∙ w.wrote;
        leads_to = least_carried (λ x. IsPair r x calls) (λ x. IsPair r x (Commits t n ks ∷ calls)) calls
            (Commits t n ks ∷ calls) v.first_out
            (λ x p. pair_after_commit t n ks calls ok r x p)
            (λ x p. elim (pair_before_commit t n ks calls ok r x p) [
              | inl now ↦ absurd (both_ways _ h (sym (commit_conflict_is r v e) ∙ subst
                  (λ y. adds (Commits t n ks) calls r y ≡ true) (sym (by_writer t n ks calls ok r x now)) now))
              | inr was ↦ was
            ])
            (λ x p. second_stamp t n ks calls ok r x p) w.leads_to;
      }

  -- the readers' rows get the new pair, and the own row is closed
  pub stands_after_commit : (row' : ℕ → Option Row) → row' t ≡ Some (closed n ks u)
      → ((r : ℕ) (v : Row) → r ≢ t → row r ≡ Some v → commit_conflict t u.snapshot readers r v ≡ true → row' r ≡ Some
      (with_later n v))
      → ((r : ℕ) (v : Row) → r ≢ t → row r ≡ Some v → commit_conflict t u.snapshot readers r v ≡ false → row' r ≡ Some
      v)
      → ((r : ℕ) → r ≢ t → row r ≡ None → row' r ≡ None)
      → ((q : ℕ) → IsOrderedPivot q (Commits t n ks ∷ calls) → ⊥) → StandsFor row' marked (Commits t n ks ∷ calls)
  stands_after_commit row' mine met unmet gone none = record {
    allowed = ok;
    no_pivot = none;
    tells = λ r w e. elim (cases_eq r t) [
      | inl f ↦ subst (λ y. Tells (Commits t n ks ∷ calls) y w) (sym f)
          (subst (Tells (Commits t n ks ∷ calls) t) (same_Some (closed n ks u) w
          (sym mine ∙ subst (λ y. row' y ≡ Some w) f e)) own_after)
      | inr ne ↦ told r w ne (row r) refl e
    ];
    keeps = λ r h. same r ∙ stands.keeps r (kept_before_commit t n ks calls ok r h);
    marks = λ r k. stands.marks r k ∙ ap (λ b. b && meets r k calls) (sym (same r));
  }
    where
      told : (r : ℕ) (w : Row) → r ≢ t → (o : Option Row) → row r ≡ o → row' r ≡ Some w
          → Tells (Commits t n ks ∷ calls) r w
      told r w ne None e f = absurd (true≢false (sym (ap is_some (sym (gone r ne e) ∙ f))))
      told r w ne (Some v) e f =
          elim (cases_Bool (commit_conflict t u.snapshot readers r v)) [
            | inl yes' ↦ subst (Tells (Commits t n ks ∷ calls) r)
                (same_Some (with_later n v) w (sym (met r v ne e yes') ∙ f)) (reader_after r v e yes')
            | inr no' ↦ subst (Tells (Commits t n ks ∷ calls) r) (same_Some v w (sym (unmet r v ne e no') ∙ f))
                (other_after r v e (λ g. ne (sym g)) no')
          ]

      same_at : (r : ℕ) → r ≢ t → (o : Option Row) → row r ≡ o → is_some (row' r) ≡ is_some (row r)
      same_at r ne None e = ap is_some (gone r ne e) ∙ ap is_some (sym e)
      same_at r ne (Some v) e = elim (cases_Bool (commit_conflict t u.snapshot readers r v)) [
        | inl yes' ↦ ap is_some (met r v ne e yes') ∙ ap is_some (sym e)
        | inr no' ↦ ap is_some (unmet r v ne e no') ∙ ap is_some (sym e)
      ]

      same : (r : ℕ) → is_some (row' r) ≡ is_some (row r)
      same r = elim (cases_eq r t) [
        | inl f ↦ ap (λ y. is_some (row' y)) f ∙ (ap is_some mine ∙
            (sym (ap is_some own) ∙ ap (λ y. is_some (row y)) (sym f)))
        | inr ne ↦ same_at r ne (row r) refl
      ]
