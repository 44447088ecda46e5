-- What a read changes.
use Rattle.std.proofs.Common.{◌≡◌, ◌≢◌, ℕ, ◌<◌, ◌==◌, ◌⊎◌, Bool, true, false, true≢false, ◌&&◌, ◌||◌, List, ◌∷◌, Option, Some, None, is_some, refl, sym, ◌∙◌, ap, subst, arith, inl, inr}
use Rattle.std.proofs.lemmas.Bool.{eqb-true, eq-eqb, ne_eqb, cases_eq, and_parts, and_from, ltb-true, lt-ltb, both_ways}
use Rattle.adya_keys.specs.Meaning.Keys.{lies_in}
use Rattle.ssi_conflict.specs.Meaning.Calls.{Call, Reads, snapshot_of, stamp_of, is_committed, is_at_or_below, are_concurrent}
use Rattle.ssi_conflict.specs.Clauses.Allowed.{AreAllowed}
use Rattle.ssi_conflict.specs.Clauses.Pairs.{IsPair, IsAtMost, IsOrderedPivot, IsSmallest}
use Rattle.ssi_conflict.specs.Computing.Steps.{adds, is_earlier}
use Rattle.ssi_conflict.specs.Meaning.Kept.{is_kept}
use Rattle.ssi_conflict.specs.Machinery.Rows.{Row, Least, IsLeast, Tells, StandsFor, sooner, with_sooner, read_conflict, read_pivot, IsSmallestRow, IsLeastStamp}
use Rattle.ssi_reads.specs.Clauses.Marks.{with_mark}
use Rattle.ssi_conflict.proofs.AllowedCalls.{unstamped, kept_after}
use Rattle.ssi_conflict.proofs.PairsByCall.{apart_parts, pair_before_read, pair_of_read, pair_after_read}
use Rattle.ssi_conflict.proofs.LeastStamps.{least_carried, least_either}
use Rattle.lemmas.proofs.Options.{some_value}
use Rattle.std.proofs.lemmas.Option.{same_Some, none-some}

none_within : (o : Option ℕ) (s : Option ℕ) → o ≡ None → is_at_or_below o s ≡ false
none_within o s e = ap (λ x. is_at_or_below x s) e

-- an earlier stamp, by cases
pub earlier_parts : (a b : Option ℕ) → is_earlier a b ≡ true → (n : ℕ) × (m : ℕ) × (a ≡ Some n) × (b ≡ Some m) × (n < m)
earlier_parts None b h = absurd (true≢false (sym h))
earlier_parts (Some n) None h = absurd (true≢false (sym h))
earlier_parts (Some n) (Some m) h = (n, m, refl, refl, ltb-true n m h)

pub earlier_from : (a b : Option ℕ) (n m : ℕ) → a ≡ Some n → b ≡ Some m → n < m → is_earlier a b ≡ true
earlier_from a b n m e f l = ap (λ x. is_earlier x b) e ∙ (ap (is_earlier (Some n)) f ∙ lt-ltb n m l)

module _ (t : ℕ) (low high : List ℕ) (calls : List Call) (ok : AreAllowed (Reads t low high ∷ calls)) (s : ℕ)
    (seen : snapshot_of t calls ≡ Some s) where
  open_reader : stamp_of t calls ≡ None
  open_reader = unstamped t calls ok.0.opened

  -- a read makes pairs of its own transaction alone
  pub by_reader : (r u : ℕ) → adds (Reads t low high) calls r u ≡ true → t ≡ r
  by_reader r u h = eqb-true t r (and_parts (t == r) _ h).0

  pub conflict_is : (x : ℕ) (u : Row) → Tells calls x u → adds (Reads t low high) calls t x ≡ read_conflict s low high u
  conflict_is x u w =
      elim (cases_eq t x) [
        | inl e ↦
            let none : u.stamp ≡ None = sym w.stamped ∙ subst (λ y. stamp_of y calls ≡ None) e open_reader in
            let none' : stamp_of x calls ≡ None = subst (λ y. stamp_of y calls ≡ None) e open_reader in
            rw (eq-eqb t t refl, none', none) refl
        | inr ne ↦ rw (
          eq-eqb t t refl,
          ne_eqb t x ne,
          none_within _ (snapshot_of x calls) open_reader,
          seen,
          w.stamped,
          w.wrote,
        ) refl
      ]

  pub met_is_kept : (x : ℕ) → adds (Reads t low high) calls t x ≡ true → is_kept x calls ≡ true
  met_is_kept x h =
      let a = and_parts (t == t) _ h in
      let b = and_parts (is_committed x calls) _ a.1 in
      let d = and_parts (are_concurrent t x calls) _ b.1 in
      kept_after x calls (record {
        committed = b.0;
        other = t;
        other_open = ok.0.opened;
        later =
            (apart_parts t x calls d.0).not_after;
      })

  module _ (none : (q : ℕ) → IsOrderedPivot q calls → ⊥) where
    -- a pivot that comes with the read is met by it, and leads to one that committed earlier
    pub record Met (q : ℕ) : Type 0 where
      pub met : adds (Reads t low high) calls t q ≡ true
      pub middle : ℕ
      pub stamped : stamp_of q calls ≡ Some middle
      pub to : ℕ
      pub out : IsPair q to calls
      pub last : ℕ
      pub last_stamped : stamp_of to calls ≡ Some last
      pub earlier : last < middle

    pub pivot_met : (q : ℕ) → IsOrderedPivot q (Reads t low high ∷ calls) → Met q
    pivot_met q p =
        let not_reader : t ≢ q = λ e. none-some p.middle (sym (subst (λ y. stamp_of y calls ≡ None) e open_reader) ∙
        p.committed) in
        let out : IsPair q p.to calls = elim (pair_before_read t low high calls ok q p.to p.out) [
          | inl now ↦ absurd (not_reader (by_reader q p.to now))
          | inr was ↦ was
        ] in
        elim (pair_before_read t low high calls ok p.from q p.into) [
          | inl now ↦ record {
            met = subst (λ x. adds (Reads t low high) calls x q ≡ true) (sym (by_reader p.from q now)) now;
            middle = p.middle;
            stamped = p.committed;
            to = p.to;
            out = out;
            last = p.last;
            last_stamped = p.to_committed;
            earlier = p.before_middle;
          }
          | inr was ↦ absurd (none q (record {
            middle = p.middle;
            committed = p.committed;
            from = p.from;
            into = was;
            to = p.to;
            out = out;
            last = p.last;
            to_committed = p.to_committed;
            before_middle = p.before_middle;
            not_after_first = p.not_after_first;
          }))
        ]

    pub row_of_pivot : (q : ℕ) (u : Row) → Tells calls q u → Met q → read_pivot s low high u ≡ true
    row_of_pivot q u w p =
        and_from (read_conflict s low high u) _ (sym (conflict_is q u w) ∙ p.met) (by_first u.first_out refl w.leads_to)
      where
        by_first : (o : Option ℕ) → u.first_out ≡ o → IsLeast (λ x. IsPair q x calls) calls o
            → is_earlier u.first_out u.stamp ≡ true
        by_first None e h = absurd (h p.to p.out)
        by_first (Some b) e h =
            let l = h.least p.to p.last p.out p.last_stamped in
            let m = p.earlier in
            earlier_from u.first_out u.stamp b p.middle e (sym w.stamped ∙ p.stamped) (omega (arith, l, m))

  pub pivot_of_row : (q : ℕ) (u : Row) → Tells calls q u → read_pivot s low high u ≡ true
      → IsOrderedPivot q (Reads t low high ∷ calls)
  pivot_of_row q u w h =
      let a = and_parts (read_conflict s low high u) _ h in
      let e = earlier_parts u.first_out u.stamp a.1 in
      let l : Least (λ x. IsPair q x calls) calls e.0 = subst (IsLeast (λ x. IsPair q x calls) calls) e.2 w.leads_to in
      record {
        middle = e.1;
        committed = w.stamped ∙ e.3;
        from = t;
        into = pair_of_read t low high calls ok t q (conflict_is q u w ∙ a.0);
        to = l.who;
        out = pair_after_read t low high calls ok q l.who l.is_one;
        last = e.0;
        to_committed = l.stamped;
        before_middle = e.4;
        not_after_first = subst (IsAtMost e.0) (sym open_reader) tt;
      }

module _ (row : ℕ → Option Row) (marked : ℕ → List ℕ → Bool) (calls : List Call) (stands : StandsFor row marked calls)
    (t : ℕ) (low high : List ℕ) (ok : AreAllowed (Reads t low high ∷ calls)) (u : Row) (own : row t ≡ Some u) where
  s : ℕ
  s = u.snapshot

  seen : snapshot_of t calls ≡ Some u.snapshot
  seen = (stands.tells t u own).is_begun

  -- the answer, by the smallest row that would be a pivot
  pub read_answer : (a : Option ℕ) → IsSmallestRow row (read_pivot u.snapshot low high) a
      → IsSmallest IsOrderedPivot (Reads t low high ∷ calls) a
  read_answer None h = λ q p.
      let m = pivot_met t low high calls ok u.snapshot seen stands.no_pivot q p in
      let r = some_value (row q) (stands.keeps q (met_is_kept t low high calls ok u.snapshot seen q m.met)) in
      both_ways _ (h q r.0 r.1) (row_of_pivot t low high calls ok u.snapshot seen stands.no_pivot q r.0
      (stands.tells q r.0 r.1) m)
  read_answer (Some p) h = (
    pivot_of_row t low high calls ok u.snapshot seen p h.one (stands.tells p h.one h.is_row) h.passes,
    λ q v.
        let m = pivot_met t low high calls ok u.snapshot seen stands.no_pivot q v in
        let r = some_value (row q) (stands.keeps q (met_is_kept t low high calls ok u.snapshot seen q m.met)) in
        h.smallest q r.0 r.1 (row_of_pivot t low high calls ok u.snapshot seen stands.no_pivot q r.0
        (stands.tells q r.0 r.1) m),
  )

  -- the least stamp of the rows that the read meets is that of the transactions
  least_met : (m : Option ℕ) → IsLeastStamp row (read_conflict u.snapshot low high) m
      → IsLeast (λ x. adds (Reads t low high) calls t x ≡ true) calls m
  least_met None h = λ x e.
      let r = some_value (row x) (stands.keeps x (met_is_kept t low high calls ok u.snapshot seen x e)) in
      both_ways _ (h x r.0 r.1) (sym (conflict_is t low high calls ok u.snapshot seen x r.0 (stands.tells x r.0 r.1))
      ∙ e)
  least_met (Some b) h = record {
    who = h.who;
    is_one = conflict_is t low high calls ok u.snapshot seen h.who h.one (stands.tells h.who h.one h.is_row) ∙ h.passes;
    stamped = (stands.tells h.who h.one h.is_row).stamped ∙ h.stamped;
    least = λ x m e f.
        let r = some_value (row x) (stands.keeps x (met_is_kept t low high calls ok u.snapshot seen x e)) in
        let w = stands.tells x r.0 r.1 in
        h.least x m r.0 r.1 (sym (conflict_is t low high calls ok u.snapshot seen x r.0 w) ∙ e) (sym w.stamped ∙ f);
  }

  module _ (m : Option ℕ) (least : IsLeastStamp row (read_conflict u.snapshot low high) m) where
    own_after : Tells (Reads t low high ∷ calls) t (with_sooner m u)
    own_after = let w = stands.tells t u own in record {
      is_begun = w.is_begun;
      stamped = w.stamped;
      unaborted = w.unaborted;
      wrote = w.wrote;
      leads_to = least_carried (λ x. IsPair t x calls ⊎ (adds (Reads t low high) calls t x ≡ true))
          (λ x. IsPair t x (Reads t low high ∷ calls)) calls (Reads t low high ∷ calls) (sooner u.first_out m)
          (λ x h. elim h [
            | inl was ↦ pair_after_read t low high calls ok t x was
            | inr now ↦ pair_of_read t low high
                calls ok t x now
          ])
          (λ x p. elim (pair_before_read t low high calls ok t x p) [ inl now ↦ inr now | inr was ↦ inl was ])
          (λ x h. refl)
          (least_either (λ x. IsPair t x calls) (λ x. adds (Reads t low high) calls t x ≡ true) _ calls u.first_out m
          (λ x p. inl p) (λ x p. inr p) (λ x p. p) w.leads_to (least_met m least));
    }

    other_after : (x : ℕ) (v : Row) → t ≢ x → Tells calls x v → Tells (Reads t low high ∷ calls) x v
    other_after x v ne w = record {
      is_begun = w.is_begun;
      stamped = w.stamped;
      unaborted = w.unaborted;
      wrote = w.wrote;
      leads_to = least_carried (λ y. IsPair x y calls) (λ y. IsPair x y (Reads t low high ∷ calls)) calls
          (Reads t low high ∷ calls) v.first_out
          (λ y p. pair_after_read t low high calls ok x y p)
          (λ y p. elim (pair_before_read t low high calls ok x y p)
          [ inl now ↦ absurd (ne (by_reader t low high calls ok u.snapshot seen x y now)) | inr was ↦ was ])
          (λ y p. refl) w.leads_to;
    }

    pub stands_after_read : (row' : ℕ → Option Row) (marked' : ℕ → List ℕ → Bool) → row' t ≡ Some (with_sooner m u)
        → ((x : ℕ) → x ≢ t → row' x ≡ row x)
        → ((x : ℕ) (k : List ℕ) → marked' x k ≡ with_mark t low high marked x k) →
        ((q : ℕ) → IsOrderedPivot q (Reads t low high ∷ calls) → ⊥)
        → StandsFor row' marked' (Reads t low high ∷ calls)
    stands_after_read row' marked' mine others marks none =
        let same : (x : ℕ) → is_some (row' x) ≡ is_some (row x) =
        λ x. elim (cases_eq x t) [
          | inl e ↦ ap (λ y. is_some (row' y)) e ∙ (ap is_some mine ∙
              (sym (ap is_some own) ∙ ap (λ y. is_some (row y)) (sym e)))
          | inr ne ↦ ap is_some (others x ne)
        ] in
        record {
          allowed = ok;
          no_pivot = none;
          tells = λ x v e. elim (cases_eq x t) [
            | inl is_own ↦ subst (λ y. Tells (Reads t low high ∷ calls) y v) (sym is_own)
                (subst (Tells (Reads t low high ∷ calls) t) (same_Some (with_sooner m u) v
                (sym mine ∙ subst (λ y. row' y ≡ Some v) is_own e)) own_after)
            | inr ne ↦ other_after x v (λ f. ne (sym f)) (stands.tells x v (sym (others x ne) ∙ e))
          ];
          keeps = λ x h. same x ∙ stands.keeps x h;
          marks = λ x k.
              marks x k ∙ (ap (λ b. ((x == t) && lies_in low high k) || b) (stands.marks x k) ∙
              elim (cases_eq x t) [
                | inl e ↦ rw (
                  eq-eqb x t e,
                  eq-eqb t x (sym e),
                  same x,
                  subst (λ y. is_some (row y) ≡ true) (sym e)
                      (ap is_some own),
                ) refl
                | inr ne ↦ rw (ne_eqb x t ne, ne_eqb t x (λ f. ne (sym f)), same x) refl
              ]);
        }
