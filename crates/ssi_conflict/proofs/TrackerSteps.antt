-- What stays of a tracker, call by call.
use Rattle.std.proofs.Common.{◌≡◌, ◌≢◌, ℕ, ◌<◌, Bool, true, false, if◌then◌else◌, List, ◌∷◌, Option, Some, None, is_some, option_map, refl, sym, ◌∙◌, ap, subst, arith, inl, inr}
use Rattle.std.proofs.lemmas.Bool.{cases_eq}
use Rattle.ssi_conflict.specs.Meaning.Calls.{Call, Begins, stamp_of, has_begun, is_open}
use Rattle.ssi_conflict.specs.Clauses.Allowed.{AreAllowed}
use Rattle.ssi_conflict.specs.Meaning.Kept.{is_kept}
use Rattle.ssi_conflict.specs.Machinery.Rows.{Row, StandsFor, with_later}
use Rattle.ssi_conflict.specs.Mirror.{Stands}
use Rattle.ssi_conflict.specs.declared.tracker.Tracker.{Tracker}
use Rattle.ssi_conflict.proofs.AllowedCalls.{open_from, kept_open}
use Rattle.ssi_conflict.proofs.RefusedCalls.{same_stands}
use Rattle.ssi_conflict.proofs.Retirement.{IsOldest, later_kept, kept_after_begin}
use Rattle.lemmas.proofs.Options.{some_value}
use Rattle.ssi_conflict.specs.Machinery.Index.{stamp_in, commit_in}
use Rattle.ssi_conflict.specs.Machinery.Records.{Changes}
use Rattle.ssi_conflict.specs.Machinery.Tables.{row_at, is_apart, met_if, is_open_row, IsTidy, is_after}
use Rattle.ssi_reads.specs.Clauses.Marks.{has_txn}

pub same_tracker : {M : Type 0} (marked : M → ℕ → List ℕ → Bool) (a b : Tracker M) (calls : List Call)
    → ((x : ℕ) → row_at b.table x ≡ row_at a.table x) → (IsTidy a.table → IsTidy b.table)
    → b.table.last ≡ a.table.last
    → ((t : ℕ) (k : List ℕ) → marked b.marks t k ≡ marked a.marks t k) → Stands marked a calls → Stands marked b calls
same_tracker marked a b calls rows tidy last marks stands = record {
  holds = record {
    rows = same_stands (row_at a.table) (row_at b.table) (marked a.marks) (marked b.marks) calls rows
        marks stands.holds.rows;
    tidy = tidy stands.holds.tidy;
    last = last ∙ stands.holds.last;
  };
  exact = λ t h. stands.exact t (ap is_some (sym (rows t)) ∙ h);
}

-- each row that is left is of a kept transaction
pub exact_rows : (row : ℕ → Option Row) (marked : ℕ → List ℕ → Bool) (calls : List Call) → StandsFor row marked calls
    → (o : Option ℕ) → IsOldest calls o → ((t n : ℕ) → stamp_in (row t) ≡ Some n → is_after (Some n) o ≡ true)
    → (t : ℕ) → is_some (row t) ≡ true → is_kept t calls ≡ true
exact_rows row marked calls stands o old after t h =
    let r = some_value (row t) h in
    let w = stands.tells t r.0 r.1 in
    by_stamp r.0.stamp (ap stamp_in r.1) w.stamped
  where
    by_stamp : (s : Option ℕ) → stamp_in (row t) ≡ s → stamp_of t calls ≡ s → is_kept t calls ≡ true
    by_stamp None e f =
        let r = some_value (row t) h in
        let w = stands.tells t r.0 r.1 in
        kept_open t calls (open_from t calls (record
        { is_begun = ap is_some w.is_begun; uncommitted = ap is_some f; unaborted = w.unaborted }))
    by_stamp (Some n) e f = later_kept calls o old t n f (after t n e)

pub no_row_yet : (row : ℕ → Option Row) (marked : ℕ → List ℕ → Bool) (calls : List Call) → StandsFor row marked calls
    → (t : ℕ) → ((u : ℕ) → has_begun u calls ≡ true → u < t) → row t ≡ None
no_row_yet row marked calls stands t above = by_row (row t) refl
  where
    by_row : (o : Option Row) → row t ≡ o → o ≡ None
    by_row None e = refl
    by_row (Some u) e = absurd (let l = above t (ap is_some (stands.tells t u e).is_begun) in omega (arith, l))

pub exact_begun : (row row' : ℕ → Option Row) (marked : ℕ → List ℕ → Bool) (calls : List Call) (t s : ℕ)
    (ok : AreAllowed (Begins t s ∷ calls)) → StandsFor row marked calls → is_open t (Begins t s ∷ calls) ≡ true
    → ((x : ℕ) → is_some (row x) ≡ true → is_kept x calls ≡ true) → ((x : ℕ) → x ≢ t → row' x ≡ row x) → (x : ℕ) →
    is_some (row' x) ≡ true → is_kept x (Begins t s ∷ calls) ≡ true
exact_begun row row' marked calls t s ok stands opened exact others x h =
    elim (cases_eq x t) [
      | inl e ↦ subst (λ y. is_kept y (Begins t s ∷ calls) ≡ true) (sym e) (kept_open t (Begins t s ∷ calls) opened)
      | inr ne ↦
          let was = ap is_some (sym (others x ne)) ∙ h in
          let r = some_value (row x) was in
          kept_after_begin t s calls ok x (ap is_some (stands.tells x r.0 r.1).is_begun) (exact x was)
    ]

-- a row that changes is still there
pub same_there : (f : Row → Row) (row row' : ℕ → Option Row) (t : ℕ) → Changes row row' t (option_map f (row t))
    → (x : ℕ) → is_some (row' x) ≡ is_some (row x)
same_there f row row' t change x =
    elim (cases_eq x t) [
      | inl e ↦ ap (λ y. is_some (row' y)) e ∙ (ap is_some change.here ∙
          (there (row t) ∙ ap (λ y. is_some (row y)) (sym e)))
      | inr ne ↦ ap is_some (change.others x ne)
    ]
  where
    there : (o : Option Row) → is_some (option_map f o) ≡ is_some o
    there None = refl
    there (Some u) = refl

-- the readers' pairs change no commit, and open none
pub met_rows : (t s n : ℕ) (readers : List ℕ) (row met' : ℕ → Option Row)
    → ((r : ℕ) → met' r ≡ option_map (met_if t s n readers r) (row r)) → (x : ℕ)
    → (commit_in (met' x) ≡ commit_in (row x)) × (is_open_row (met' x) ≡ is_open_row (row x))
met_rows t s n readers row met' all x = (
  ap commit_in (all x) ∙ by_row commit_in (row x) (λ u. refl),
  ap is_open_row (all x) ∙ by_row is_open_row (row x)
      (λ u. refl),
)
  where
    by_tests : {A : Type 0} (g : Option Row → A) (u : Row) → g (Some (with_later n u)) ≡ g (Some u) → (a b : Bool)
        → g (Some (if a then (if b then with_later n u else u) else u)) ≡ g (Some u)
    by_tests g u h true true = h
    by_tests g u h true false = refl
    by_tests g u h false b = refl

    by_row : {A : Type 0} (g : Option Row → A) (o : Option Row) → ((u : Row) → g (Some (with_later n u)) ≡ g (Some u))
        → g (option_map (met_if t s n readers x) o) ≡ g o
    by_row g None h = refl
    by_row g (Some u) h = by_tests g u (h u) (has_txn readers x) (is_apart t s x u)
