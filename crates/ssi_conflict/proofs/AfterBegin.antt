-- A transaction that begins.
use Rattle.std.proofs.Common.{◌≡◌, ◌≢◌, ℕ, ◌==◌, Bool, true, false, ◌&&◌, List, [], ◌∷◌, Option, Some, None, is_some, refl, sym, ◌∙◌, ap, subst, arith, inl, inr}
use Rattle.std.proofs.lemmas.Bool.{eq-eqb, ne_eqb, cases_eq, cases_Bool, cond-false, cond-true, le-leb, both_ways}
use Rattle.ssi_conflict.specs.Meaning.Calls.{Call, Begins, Reads, Commits, Aborts, snapshot_of, stamp_of, keys_of, has_begun, is_committed, is_aborted, is_open, meets, is_at_or_below, precedes}
use Rattle.ssi_conflict.specs.Clauses.Allowed.{AreAllowed}
use Rattle.ssi_conflict.specs.Clauses.Pairs.{IsPair, IsOrderedPivot}
use Rattle.ssi_conflict.specs.Meaning.Kept.{is_kept}
use Rattle.ssi_conflict.specs.Machinery.Rows.{Row, Tells, StandsFor, new_row}
use Rattle.ssi_conflict.proofs.AllowedCalls.{open_parts, open_from, kept_parts, kept_open, kept_after, stamps_below, reader_begun, committed_begun, aborted_begun}
use Rattle.ssi_conflict.proofs.PairsByCall.{same_snapshot, pair_before_begin, pair_after_begin}
use Rattle.ssi_conflict.proofs.LeastStamps.{least_carried}
use Rattle.lemmas.proofs.Options.{some_value, none_unless_some}
use Rattle.std.proofs.lemmas.Option.{same_Some, none-some}

pub no_keys : (calls : List Call) (t : ℕ) → stamp_of t calls ≡ None → keys_of t calls ≡ []
no_keys [] t h = refl
no_keys (Begins u s ∷ calls) t h = no_keys calls t h
no_keys (Reads u low high ∷ calls) t h = no_keys calls t h
no_keys (Aborts u ∷ calls) t h = no_keys calls t h
no_keys (Commits u n ks ∷ calls) t h =
    elim (cases_eq u t) [
      | inl e ↦ absurd (none-some n (sym h ∙ cond-true (u == t) (Some n) (stamp_of t calls) (eq-eqb u t e)))
      | inr ne ↦ cond-false (u == t) ks (keys_of t calls) (ne_eqb u t ne) ∙ no_keys calls t
          (sym (cond-false (u == t) (Some n) (stamp_of t calls) (ne_eqb u t ne)) ∙ h)
    ]

module _ (t s : ℕ) (calls : List Call) (ok : AreAllowed (Begins t s ∷ calls)) where
  pub unbegun : has_begun t calls ≡ false
  unbegun = elim (cases_Bool (has_begun t calls)) [
    | inl h ↦ absurd (let l = ok.0.above t h in omega (arith, l))
    | inr
        h ↦ h
  ]

  no_pivot_begins : ((q : ℕ) → IsOrderedPivot q calls → ⊥) → (q : ℕ) → IsOrderedPivot q (Begins t s ∷ calls) → ⊥
  no_pivot_begins none q p = none q (record {
    middle = p.middle;
    committed = p.committed;
    from = p.from;
    into = pair_before_begin t s calls ok p.from q p.into;
    to = p.to;
    out = pair_before_begin t s calls ok q p.to p.out;
    last = p.last;
    to_committed = p.to_committed;
    before_middle = p.before_middle;
    not_after_first = p.not_after_first;
  })

  fresh : Tells (Begins t s ∷ calls) t (new_row s)
  fresh =
      let uncommitted : stamp_of t calls ≡ None = none_unless_some (stamp_of t calls)
      (elim (cases_Bool (is_committed t calls)) [
        | inl h ↦ absurd
            (both_ways _ unbegun (committed_begun calls ok.1 t h))
        | inr h ↦ h
      ]) in
      record {
        is_begun = cond-true (t == t) (Some s) (snapshot_of t calls) (eq-eqb t t refl);
        stamped = uncommitted;
        unaborted = elim (cases_Bool (is_aborted t calls)) [
          | inl h ↦ absurd
              (both_ways _ unbegun (aborted_begun calls ok.1 t h))
          | inr h ↦ h
        ];
        wrote = no_keys calls t uncommitted;
        leads_to = λ x p. both_ways _ unbegun (reader_begun calls ok.1 t p.key p.met);
      }

  older_row : (x : ℕ) (v : Row) → Tells calls x v → Tells (Begins t s ∷ calls) x v
  older_row x v w = record {
    is_begun = same_snapshot t s calls ok x (ap is_some w.is_begun) ∙ w.is_begun;
    stamped = w.stamped;
    unaborted = w.unaborted;
    wrote = w.wrote;
    leads_to = least_carried (λ y. IsPair x y calls) (λ y. IsPair x y (Begins t s ∷ calls)) calls (Begins t s ∷ calls)
        v.first_out
        (λ y p. pair_after_begin t s calls ok x y p) (λ y p. pair_before_begin t s calls ok x y p) (λ y p. refl)
        w.leads_to;
  }

  open_before_begin : (x : ℕ) → t ≢ x → is_open x (Begins t s ∷ calls) ≡ true → is_open x calls ≡ true
  open_before_begin x ne h =
      let o = open_parts x (Begins t s ∷ calls) h in
      open_from x calls (record {
        is_begun = sym
            (ap is_some (cond-false (t == x) (Some s) (snapshot_of x calls) (ne_eqb t x ne))) ∙ o.is_begun;
        uncommitted = o.uncommitted;
        unaborted = o.unaborted;
      })

  -- the new one's snapshot is not below any stamp
  within_new : (x : ℕ) → is_committed x calls ≡ true → precedes x t (Begins t s ∷ calls) ≡ true
  within_new x c =
      let m = some_value (stamp_of x calls) c in
      let below = stamps_below calls ok.1 x m.0 m.1 in
      let now' = ok.0.current in
      ap (λ y. is_at_or_below y (snapshot_of t (Begins t s ∷ calls))) m.1 ∙
      (ap (is_at_or_below (Some m.0)) (cond-true (t == t) (Some s) (snapshot_of t calls) (eq-eqb t t refl)) ∙ le-leb
      m.0 s (omega (arith, below, now')))

  pub kept_before_begin : (x : ℕ) → t ≢ x → is_kept x (Begins t s ∷ calls) ≡ true → is_kept x calls ≡ true
  kept_before_begin x ne h =
      elim (kept_parts x (Begins t s ∷ calls) h) [
        | inl o ↦ kept_open x calls (open_before_begin x ne o)
        | inr w ↦
            elim (cases_eq t w.other) [
              | inl e ↦ absurd (both_ways _ w.later (subst (λ y. precedes x y (Begins t s ∷ calls) ≡ true) e
                  (within_new x w.committed)))
              | inr apart ↦ kept_after x calls (record {
                committed = w.committed;
                other = w.other;
                other_open = open_before_begin w.other apart w.other_open;
                later = ap (is_at_or_below (stamp_of x calls))
                    (sym (cond-false (t == w.other) (Some s) (snapshot_of w.other calls) (ne_eqb t w.other apart))) ∙
                    w.later;
              })
            ]
      ]

  pub stands_after_begin : (row row' : ℕ → Option Row) (marked : ℕ → List ℕ → Bool) → StandsFor row marked calls
      → row' t ≡ Some (new_row s) → ((x : ℕ) → x ≢ t → row' x ≡ row x)
      → StandsFor row' marked (Begins t s ∷ calls)
  stands_after_begin row row' marked stands mine others = record {
    allowed = ok;
    no_pivot = no_pivot_begins stands.no_pivot;
    tells = λ x v e. elim (cases_eq x t) [
      | inl f ↦ subst (λ y. Tells (Begins t s ∷ calls) y v) (sym f)
          (subst (Tells (Begins t s ∷ calls) t) (same_Some (new_row s) v
          (sym mine ∙ subst (λ y. row' y ≡ Some v) f e)) fresh)
      | inr ne ↦ older_row x v (stands.tells x v (sym (others x ne) ∙ e))
    ];
    keeps = λ x h. elim (cases_eq x t) [
      | inl f ↦ ap (λ y. is_some (row' y)) f ∙ ap is_some mine
      | inr ne ↦ ap is_some (others x ne) ∙ stands.keeps x (kept_before_begin x (λ f. ne (sym f)) h)
    ];
    marks = λ x k. elim (cases_eq x t) [
      | inl f ↦
          let unmet : meets x k calls ≡ false = elim (cases_Bool (meets x k calls)) [
            | inl h ↦ absurd (both_ways _ unbegun (subst (λ y. has_begun y calls ≡ true) f
                (reader_begun calls ok.1 x k h)))
            | inr h ↦ h
          ] in
          stands.marks x k ∙ rw unmet (both_false (is_some (row x)) (is_some (row' x)))
      | inr ne ↦ stands.marks x k ∙ ap (λ o. is_some o && meets x k calls) (sym (others x ne))
    ];
  }
    where
      both_false : (a b : Bool) → (a && false) ≡ (b && false)
      both_false true true = refl
      both_false true false = refl
      both_false false true = refl
      both_false false false = refl

pub new_open : (t s : ℕ) (calls : List Call) (ok : AreAllowed (Begins t s ∷ calls))
    → is_open t (Begins t s ∷ calls) ≡ true
new_open t s calls ok =
    open_from t (Begins t s ∷ calls) (record {
      is_begun = ap is_some (cond-true (t == t) (Some s) (snapshot_of t calls) (eq-eqb t t refl));
      uncommitted = elim (cases_Bool (is_committed t calls))
          [ inl h ↦ absurd (both_ways _ (unbegun t s calls ok) (committed_begun calls ok.1 t h)) | inr h ↦ h ];
      unaborted = elim (cases_Bool (is_aborted t calls)) [
        | inl h ↦ absurd
            (both_ways _ (unbegun t s calls ok) (aborted_begun calls ok.1 t h))
        | inr h ↦ h
      ];
    })
