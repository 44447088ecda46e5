-- The readers of a commit, one after the other.
use Rattle.std.proofs.Common.{◌≡◌, ◌≢◌, ℕ, ◌≤◌, ◌==◌, Bool, true, false, true≢false, not, ◌&&◌, ◌||◌, if◌then◌else◌, nat_lt, List, [], ◌∷◌, ◌++◌, Option, Some, None, option_map, refl, sym, ◌∙◌, ap, subst, inl, inr}
use Rattle.std.specs.List.{list_any}
use Rattle.std.proofs.lemmas.Bool.{eqb-true, eq-eqb, ne_eqb, cases_eq, cases_Bool, or_left, or_right, cond-true, cond-false, both_ways}
use Rattle.std.proofs.lemmas.List.Folds.{list_any-append}
use Rattle.ssi_conflict.specs.Meaning.Calls.{Call, Commits, is_at_or_below}
use Rattle.ssi_conflict.specs.Clauses.Allowed.{AreAllowed}
use Rattle.ssi_conflict.specs.Clauses.Pairs.{IsOrderedPivot}
use Rattle.ssi_conflict.proofs.AllowedCalls.{kept_open}
use Rattle.ssi_conflict.proofs.AfterCommit.{commit_safe, commit_unsafe}
use Rattle.ssi_conflict.specs.Computing.Steps.{is_no_later}
use Rattle.ssi_conflict.specs.Machinery.Rows.{Row, StandsFor, sooner, with_later, closed, commit_conflict, commit_pivot}
use Rattle.lemmas.proofs.Options.{some_value}
use Rattle.lemmas.proofs.Tests.{list_any-source, list_any_when}
use Rattle.ssi_conflict.specs.Machinery.Index.{row_passes}
use Rattle.ssi_conflict.specs.Machinery.Records.{Changes}
use Rattle.ssi_conflict.specs.Machinery.Tables.{is_apart, met, met_if, pivots, any_pivots}
use Rattle.ssi_reads.specs.Clauses.Marks.{has_txn}

same_choice : (n : ℕ) (b : Bool) → (if b then Some n else Some n) ≡ Some n
same_choice n true = refl
same_choice n false = refl

choice : (m n : ℕ) (b : Bool) → nat_lt n m ≡ b
    → sooner (if b then Some n else Some m) (Some n) ≡ (if b then Some n else Some m)
choice m n true e = same_choice n (nat_lt n n)
choice m n false e = ap (λ b. if b then Some n else Some m) e

sooner_again : (o : Option ℕ) (n : ℕ) → sooner (sooner o (Some n)) (Some n) ≡ sooner o (Some n)
sooner_again None n = same_choice n (nat_lt n n)
sooner_again (Some m) n = choice m n (nat_lt n m) refl

later_again : (n : ℕ) (v : Row) → with_later n (with_later n v) ≡ with_later n v
later_again n v = ap (λ o. record v { first_out = o }) (sooner_again v.first_out n)

met_again : (t s n r : ℕ) (v : Row) (b : Bool) → is_apart t s r v ≡ b
    → met t s n r (if b then with_later n v else v) ≡ (if b then with_later n v else v)
met_again t s n r v true e =
    cond-true (is_apart t s r v) (with_later n (with_later n v)) (with_later n v) e ∙ later_again n v
met_again t s n r v false e = cond-false (is_apart t s r v) (with_later n v) v e

met_twice : (t s n r : ℕ) (v : Row) (b : Bool) → met t s n r (if b then met t s n r v else v) ≡ met t s n r v
met_twice t s n r v true = met_again t s n r v (is_apart t s r v) refl
met_twice t s n r v false = refl

has_more : (done : List ℕ) (r x : ℕ) → has_txn (done ++ r ∷ []) x ≡ (has_txn done x || ((r == x) || false))
has_more done r x = list_any-append (λ u. u == x) done (r ∷ [])

map_map : (f g : Row → Row) (o : Option Row) → option_map f (option_map g o) ≡ option_map (λ v. f (g v)) o
map_map f g None = refl
map_map f g (Some v) = refl

map_same : (f g : Row → Row) → ((v : Row) → f v ≡ g v) → (o : Option Row) → option_map f o ≡ option_map g o
map_same f g h None = refl
map_same f g h (Some v) = ap Some (h v)

or_none : (b c : Bool) → c ≡ false → (b || (c || false)) ≡ b
or_none true c e = refl
or_none false c e = ap (λ x. x || false) e

pub meet_step : (t s n : ℕ) (done : List ℕ) (r : ℕ) (f now' new : ℕ → Option Row)
    → ((x : ℕ) → now' x ≡ option_map (met_if t s n done x) (f x))
    → Changes now' new r (option_map (met t s n r) (now' r))
    → (x : ℕ) → new x ≡ option_map (met_if t s n (done ++ r ∷ []) x) (f x)
meet_step t s n done r f now' new before change x =
    elim (cases_eq x r) [
      | inl e ↦
          let all : has_txn (done ++ r ∷ []) r ≡ true = has_more done r r ∙ or_right (has_txn done r) _
          (or_left (r == r) false (eq-eqb r r refl)) in
          let here : new r ≡ option_map (met_if t s n (done ++ r ∷ []) r) (f r) =
          change.here ∙ (ap (option_map (met t s n r)) (before r) ∙ (map_map (met t s n r) (met_if t s n done r) (f r) ∙
          map_same (λ v. met t s n r (met_if t s n done r v)) (met_if t s n (done ++ r ∷ []) r)
          (λ v. met_twice t s n r v (has_txn done r) ∙ sym
          (cond-true (has_txn (done ++ r ∷ []) r) (met t s n r v) v all)) (f r))) in
          subst (λ y. new y ≡ option_map (met_if t s n (done ++ r ∷ []) y) (f y)) (sym e) here
      | inr ne ↦
          let same : has_txn (done ++ r ∷ []) x ≡ has_txn done x = has_more done r x ∙ or_none (has_txn done x)
          (r == x) (ne_eqb r x (λ e. ne (sym e))) in
          change.others x ne ∙ (before x ∙ map_same (met_if t s n done x) (met_if t s n (done ++ r ∷ []) x)
          (λ v. ap (λ b. if b then met t s n x v else v) (sym same)) (f x))
    ]

-- the rows after the readers' pairs and the commit
module _ (t s n : ℕ) (ks : List (List ℕ)) (readers : List ℕ) (row met' row' : ℕ → Option Row) (u : Row)
    (own : row t ≡ Some u)
    (all : (r : ℕ) → met' r ≡ option_map (met_if t s n readers r) (row r))
    (close : Changes met' row' t (option_map (closed n ks) (met' t))) where
  own_unmet : (b : Bool) → (if b then met t s n t u else u) ≡ u
  own_unmet true = cond-false (is_apart t s t u) (with_later n u) u
      (ap (λ b. not b && not (is_at_or_below u.stamp (Some s))) (eq-eqb t t refl))
  own_unmet false = refl

  pub after_own : row' t ≡ Some (closed n ks u)
  after_own = close.here ∙ ap (option_map (closed n ks)) (all t ∙
      (ap (option_map (met_if t s n readers t)) own ∙ ap Some (own_unmet (has_txn readers t))))

  at : (r : ℕ) (v : Row) → r ≢ t → row r ≡ Some v → row' r ≡ Some (met_if t s n readers r v)
  at r v ne e = close.others r ne ∙ (all r ∙ ap (option_map (met_if t s n readers r)) e)

  choose : (a b c : Bool) (v : Row) → (not a && (not b && c)) ≡ true
      → (if c then (if not a && not b then with_later n v else v) else v) ≡ with_later n v
  choose false false true v h = refl
  choose true b c v h = absurd (true≢false (sym h))
  choose false true c v h = absurd (true≢false (sym h))
  choose false false false v h = absurd (true≢false (sym h))

  leave : (a b c : Bool) (v : Row) → (not a && (not b && c)) ≡ false
      → (if c then (if not a && not b then with_later n v else v) else v) ≡ v
  leave a b false v h = refl
  leave true b true v h = refl
  leave false true true v h = refl
  leave false false true v h = absurd (true≢false h)

  pub after_met : (r : ℕ) (v : Row) → r ≢ t → row r ≡ Some v → commit_conflict t s (has_txn readers) r v ≡ true
      → row' r ≡ Some (with_later n v)
  after_met r v ne e h = at r v ne e ∙ ap Some (choose (r == t) (is_at_or_below v.stamp (Some s)) (has_txn readers r)
      v h)

  pub after_unmet : (r : ℕ) (v : Row) → r ≢ t → row r ≡ Some v → commit_conflict t s (has_txn readers) r v ≡ false
      → row' r ≡ Some v
  after_unmet r v ne e h = at r v ne e ∙ ap Some (leave (r == t) (is_at_or_below v.stamp (Some s)) (has_txn readers r)
      v h)

  pub after_gone : (r : ℕ) → r ≢ t → row r ≡ None → row' r ≡ None
  after_gone r ne e = close.others r ne ∙ (all r ∙ ap (option_map (met_if t s n readers r)) e)

-- a reader with which t would be a pivot
pub pivot_found : (row : ℕ → Option Row) (t s : ℕ) (b : Option ℕ) (readers : List ℕ)
    → list_any (pivots row t s b) readers ≡ true
    → (r : ℕ) × (v : Row) × (row r ≡ Some v) × (commit_pivot t s (has_txn readers) b r v ≡ true)
pivot_found row t s b readers h =
    let w = list_any-source (pivots row t s b) readers h in
    by_row w.0 (list_any_when (λ u. u == w.0) readers w.0 w.1 (eq-eqb w.0 w.0 refl)) (row w.0) refl w.2
  where
    join : (a d c e : Bool) → ((not a && not d) && e) ≡ true → c ≡ true → ((not a && (not d && c)) && e) ≡ true
    join false false true e h k = h
    join false false false e h k = absurd (true≢false (sym k))
    join true d c e h k = absurd (true≢false (sym h))
    join false true c e h k = absurd (true≢false (sym h))

    by_row : (r : ℕ) → has_txn readers r ≡ true → (o : Option Row) → row r ≡ o
        → row_passes (λ v. is_apart t s r v && is_no_later b v.stamp) o ≡ true
        → (r : ℕ) × (v : Row) × (row r ≡ Some v) × (commit_pivot t s (has_txn readers) b r v ≡ true)
    by_row r k None e p = absurd (true≢false (sym p))
    by_row r k (Some v) e p = (
      r,
      v,
      e,
      join (r == t) (is_at_or_below v.stamp (Some s)) (has_txn readers r)
          (is_no_later b v.stamp) p k,
    )

pub no_pivot_found : (row : ℕ → Option Row) (t s : ℕ) (b : Option ℕ) (readers : List ℕ)
    → list_any (pivots row t s b) readers ≡ false
    → (r : ℕ) (v : Row) → row r ≡ Some v → commit_pivot t s (has_txn readers) b r v ≡ false
no_pivot_found row t s b readers h r v e =
    elim (cases_Bool (commit_pivot t s (has_txn readers) b r v)) [
      | inl yes' ↦
          let a = parts (r == t) (is_at_or_below v.stamp (Some s)) (has_txn readers r) (is_no_later b v.stamp) yes' in
          let w = list_any-source (λ u. u == r) readers a.1 in
          let passes : pivots row t s b r ≡ true = ap (row_passes (λ x. is_apart t s r x && is_no_later b x.stamp)) e
          ∙ a.0 in
          absurd (both_ways _ h (list_any_when (pivots row t s b) readers w.0 w.1
          (subst (λ y. pivots row t s b y ≡ true) (sym (eqb-true w.0 r w.2)) passes)))
      | inr no' ↦ no'
    ]
  where
    parts : (a d c e : Bool) → ((not a && (not d && c)) && e) ≡ true → (((not a && not d) && e) ≡ true) × (c ≡ true)
    parts false false true e h = (h, refl)
    parts false false false e h = absurd (true≢false (sym h))
    parts true d c e h = absurd (true≢false (sym h))
    parts false true c e h = absurd (true≢false (sym h))

-- a commit is judged by the rows of its readers
module _ (row : ℕ → Option Row) (marked : ℕ → List ℕ → Bool) (calls : List Call) (stands : StandsFor row marked calls)
    (t n : ℕ) (ks : List (List ℕ)) (ok : AreAllowed (Commits t n ks ∷ calls))
    (readers : List ℕ) (known : (r : ℕ) → has_txn readers r ≡ list_any (marked r) ks) where
  own_row : (u : Row) × (row t ≡ Some u)
  own_row = some_value (row t) (stands.keeps t (kept_open t calls ok.0.opened))

  by_own : any_pivots row t readers ≡ list_any (pivots row t own_row.0.snapshot own_row.0.first_out) readers
  by_own = ap (row_passes (λ v. list_any (pivots row t v.snapshot v.first_out) readers)) own_row.1

  pub judged_safe : any_pivots row t readers ≡ false → (q : ℕ) → IsOrderedPivot q (Commits t n ks ∷ calls) → ⊥
  judged_safe none =
      commit_safe row marked calls stands t n ks ok own_row.0 own_row.1 (has_txn readers) known
      (no_pivot_found row t own_row.0.snapshot own_row.0.first_out readers (sym by_own ∙ none))

  pub judged_unsafe : any_pivots row t readers ≡ true
      → IsOrderedPivot t (Commits t n ks ∷ calls) × ((q : ℕ) → IsOrderedPivot q (Commits t n ks ∷ calls) → t ≤ q)
  judged_unsafe some =
      let w = pivot_found row t own_row.0.snapshot own_row.0.first_out readers (sym by_own ∙ some) in
      commit_unsafe row marked calls stands t n ks ok own_row.0 own_row.1 (has_txn readers) known w.0 w.1 w.2 w.3
