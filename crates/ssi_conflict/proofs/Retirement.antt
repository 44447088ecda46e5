-- Which transactions are kept, by the oldest open one.
use Rattle.std.proofs.Common.{◌≡◌, ℕ, ◌≤◌, ◌==◌, Bool, true, false, true≢false, List, [], ◌∷◌, Option, Some, None, is_some, refl, sym, ◌∙◌, ap, arith, inl, inr}
use Rattle.std.proofs.lemmas.Bool.{eq-eqb, ne_eqb, cases_eq, cases_Bool, cond-false, cond-true, lt-leb, leb-false, ltb-true, ltb-false, both_ways, not_from_false, not-true}
use Rattle.ssi_conflict.specs.Meaning.Calls.{Call, Begins, Reads, Commits, Aborts, snapshot_of, stamp_of, has_begun, is_open, is_at_or_below}
use Rattle.ssi_conflict.specs.Clauses.Allowed.{AreAllowed}
use Rattle.ssi_conflict.specs.Meaning.Kept.{is_kept}
use Rattle.ssi_conflict.specs.Machinery.Rows.{Row, StandsFor}
use Rattle.ssi_conflict.proofs.AllowedCalls.{open_parts, open_from, unstamped, kept_parts, kept_open, kept_after, snapshots_below}
use Rattle.ssi_conflict.proofs.PairsByCall.{same_snapshot}
use Rattle.lemmas.proofs.Options.{some_value}
use Rattle.ssi_conflict.specs.Machinery.Index.{stamp_in}
use Rattle.ssi_conflict.specs.Machinery.Tables.{is_open_row, IsOldestRow, is_after}
use Rattle.std.proofs.lemmas.Option.{same_Some, none-some}

-- who began later has no lower snapshot
pub snapshots_rise : (calls : List Call) → AreAllowed calls → (t u a b : ℕ) → t ≤ u → snapshot_of t calls ≡ Some a
    → snapshot_of u calls ≡ Some b → a ≤ b
snapshots_rise [] ok t u a b l e f = absurd (none-some a e)
snapshots_rise (Reads x low high ∷ calls) ok t u a b l e f = snapshots_rise calls ok.1 t u a b l e f
snapshots_rise (Commits x n ks ∷ calls) ok t u a b l e f = snapshots_rise calls ok.1 t u a b l e f
snapshots_rise (Aborts x ∷ calls) ok t u a b l e f = snapshots_rise calls ok.1 t u a b l e f
snapshots_rise (Begins x s ∷ calls) ok t u a b l e f =
    elim (cases_eq x u) [
      | inl g ↦
          let same = same_Some s b (sym (cond-true (x == u) (Some s) (snapshot_of u calls) (eq-eqb x u g)) ∙ f) in
          let last = ok.0.current in
          elim (cases_eq x t) [
            | inl h ↦ (let same' = same_Some s a (sym
                (cond-true (x == t) (Some s) (snapshot_of t calls) (eq-eqb x t h)) ∙ e) in omega (arith, same, same'))
            | inr h ↦ (let below = snapshots_below calls ok.1 t a
                (sym (cond-false (x == t) (Some s) (snapshot_of t calls) (ne_eqb x t h)) ∙ e) in omega
                (arith, same, below, last))
          ]
      | inr g ↦
          let f' = sym (cond-false (x == u) (Some s) (snapshot_of u calls) (ne_eqb x u g)) ∙ f in
          elim (cases_eq x t) [
            | inl h ↦ (let above = ok.0.above u (ap is_some f') in absurd (omega (arith, above, l, h)))
            | inr h ↦ snapshots_rise calls ok.1 t u a b l (sym
                (cond-false (x == t) (Some s) (snapshot_of t calls) (ne_eqb x t h)) ∙ e) f'
          ]
    ]

-- the least snapshot of the open ones
pub record Oldest (calls : List Call) (s : ℕ) : Type 0 where
  pub who : ℕ
  pub who_open : is_open who calls ≡ true
  pub seen : snapshot_of who calls ≡ Some s
  pub least : (x m : ℕ) → is_open x calls ≡ true → snapshot_of x calls ≡ Some m → s ≤ m

abbrev pub IsOldest : List Call → Option ℕ → Type 0
IsOldest calls None = (x : ℕ) → is_open x calls ≡ true → ⊥
IsOldest calls (Some s) = Oldest calls s

module _ (row : ℕ → Option Row) (marked : ℕ → List ℕ → Bool) (calls : List Call) (stands : StandsFor row marked calls)
  where
    pub row_open : (x : ℕ) → is_open x calls ≡ true → is_open_row (row x) ≡ true
    row_open x o =
        let r = some_value (row x) (stands.keeps x (kept_open x calls o)) in
        ap is_open_row r.1 ∙ not_from_false _ (ap is_some (sym (stands.tells x r.0 r.1).stamped ∙ unstamped x calls o))

    pub open_of_row : (x : ℕ) → is_open_row (row x) ≡ true → is_open x calls ≡ true
    open_of_row x h = by_row (row x) refl h
      where
        by_row : (o : Option Row) → row x ≡ o → is_open_row o ≡ true → is_open x calls ≡ true
        by_row None e f = absurd (true≢false (sym f))
        by_row (Some u) e f = let w = stands.tells x u e in open_from x calls
            (record {
              is_begun = ap is_some w.is_begun;
              uncommitted = ap is_some w.stamped ∙ not-true _ f;
              unaborted =
                  w.unaborted;
            })

    pub stamped_row : (x n : ℕ) → stamp_in (row x) ≡ Some n → stamp_of x calls ≡ Some n
    stamped_row x n h = by_row (row x) refl h
      where
        by_row : (o : Option Row) → row x ≡ o → stamp_in o ≡ Some n → stamp_of x calls ≡ Some n
        by_row None e f = absurd (none-some n f)
        by_row (Some u) e f = (stands.tells x u e).stamped ∙ f

    pub oldest_of_rows : (o : Option ℕ) → IsOldestRow row o → IsOldest calls o
    oldest_of_rows None h = λ x o. both_ways _ (h x) (row_open x o)
    oldest_of_rows (Some s) h =
        let w = stands.tells h.who h.one h.is_row in
        let who_open = open_of_row h.who (ap is_open_row h.is_row ∙ not_from_false _ (ap is_some h.unstamped)) in
        let seen = w.is_begun ∙ ap Some h.seen in
        record {
          who = h.who;
          who_open = who_open;
          seen = seen;
          least = λ x m o e. snapshots_rise calls stands.allowed h.who x s m (h.first x (row_open x o)) seen e;
        }

within_none : (o : Option ℕ) (n : ℕ) → o ≡ Some n → o ≡ None → ⊥
within_none o n e f = none-some n (sym f ∙ e)

-- a stamp that isn't after the oldest snapshot is of no kept transaction
pub past_unkept : (calls : List Call) (o : Option ℕ) → IsOldest calls o → (t n : ℕ) → stamp_of t calls ≡ Some n
    → is_after (Some n) o ≡ false → is_kept t calls ≡ false
past_unkept calls o old t n stamped past =
    elim (cases_Bool (is_kept t calls)) [
      | inl kept ↦ elim (kept_parts t calls kept) [
        | inl opened ↦ absurd (within_none (stamp_of t calls) n stamped (unstamped t calls opened))
        | inr w ↦
            let seen = some_value (snapshot_of w.other calls) (open_parts w.other calls w.other_open).is_begun in
            absurd (by_oldest o old past w.other w.other_open seen.0 seen.1
            (sym (ap (λ x. is_at_or_below x (snapshot_of w.other calls)) stamped ∙ ap (is_at_or_below (Some n))
            seen.1) ∙ w.later))
      ]
      | inr unkept ↦ unkept
    ]
  where
    by_oldest : (o : Option ℕ) → IsOldest calls o → is_after (Some n) o ≡ false → (x : ℕ) → is_open x calls ≡ true
        → (m : ℕ) → snapshot_of x calls ≡ Some m → is_at_or_below (Some n) (Some m) ≡ false → ⊥
    by_oldest None h p x xo m e later = h x xo
    by_oldest (Some s) h p x xo m e later = let a = h.least x m xo e in let b = ltb-false s n p in let d = leb-false n
        m later in omega (arith, a, b, d)

pub later_kept : (calls : List Call) (o : Option ℕ) → IsOldest calls o → (t n : ℕ) → stamp_of t calls ≡ Some n
    → is_after (Some n) o ≡ true → is_kept t calls ≡ true
later_kept calls None old t n stamped after = absurd (true≢false (sym after))
later_kept calls (Some s) old t n stamped after =
    kept_after t calls (record {
      committed = ap is_some stamped;
      other = old.who;
      other_open = old.who_open;
      later = ap (λ x. is_at_or_below x (snapshot_of old.who calls)) stamped ∙
          (ap (is_at_or_below (Some n)) old.seen ∙ lt-leb n s (ltb-true s n after));
    })

-- who is kept stays so when another begins
pub kept_after_begin : (t s : ℕ) (calls : List Call) (ok : AreAllowed (Begins t s ∷ calls)) (x : ℕ)
    → has_begun x calls ≡ true → is_kept x calls ≡ true → is_kept x (Begins t s ∷ calls) ≡ true
kept_after_begin t s calls ok x b h =
    elim (kept_parts x calls h) [
      | inl o ↦ kept_open x (Begins t s ∷ calls) (still_open x o)
      | inr w ↦ kept_after x (Begins t s ∷ calls) (record {
        committed = w.committed;
        other = w.other;
        other_open = still_open w.other w.other_open;
        later = ap (is_at_or_below (stamp_of x calls)) (same_snapshot t s calls ok w.other
            (open_parts w.other calls w.other_open).is_begun) ∙ w.later;
      })
    ]
  where
    still_open : (y : ℕ) → is_open y calls ≡ true → is_open y (Begins t s ∷ calls) ≡ true
    still_open y o =
        let p = open_parts y calls o in
        open_from y (Begins t s ∷ calls) (record {
          is_begun = ap is_some (same_snapshot t s calls ok y p.is_begun) ∙ p.is_begun;
          uncommitted =
              p.uncommitted;
          unaborted = p.unaborted;
        })
