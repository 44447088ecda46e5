-- The open transactions with their snapshots, after a begin and after an end.
use Rattle.std.specs.List.{Contains}
use Rattle.std.proofs.Common.{Bool, List, [], ap, arith, false, filter, inl, inr, map, nat_eq, not, refl, subst, sym, true, ℕ, ◌&&◌, ◌++◌, ◌==◌, ◌||◌, ◌∙◌, ◌∷◌, ◌≡◌}
use Rattle.std.proofs.lemmas.Bool.{both_ways, cases_Bool, cond-false, cond-true, eq-eqb, eqb-true, false_from_ne_true}
use Rattle.std.proofs.lemmas.List.{map-append}
use Rattle.std.proofs.lemmas.List.Elements.{filter-append}
use Rattle.indexmap.specs.IndexMap.{insert_entry, shift_remove_entry}
use Rattle.lemmas.proofs.Filters.{filter-source, filter_both}
use Rattle.lemmas.proofs.Members.{Contains-cons, Contains-head}
use Rattle.adya_values.specs.Computing.Shapes.{numbers_rise}
use Rattle.ssi_store.specs.Meaning.Acts.{Aborts, Act, Commits, Begins, has_aborted, has_committed, has_begun, is_open, open_txns, begun}
use Rattle.ssi_store.specs.Meaning.Seeing.{commit_count, snapshot}
use Rattle.ssi_store.specs.Mirror.Standing.{with_snapshots}
use Rattle.ssi_store.proofs.Lists.{filter_within}
use Rattle.adya_values.proofs.RisingNumbers.{number_below, numbers_rise-filter, numbers_rise-tail}
use Rattle.ssi_store.proofs.SoundLogs.{Sound, aborted_begun, committed_begun}
use Rattle.ssi_store.proofs.Snapshots.{begun_rise, there_begun}

map_within : {X Y : Type 0} (f g : X → Y) (xs : List X) → ((x : X) → Contains xs x → f x ≡ g x) → map f xs ≡ map g xs
map_within f g [] h = refl
map_within f g (x ∷ xs) h =
    ap (λ y. y ∷ map f xs) (h x (Contains-head x xs))
    ∙ ap (λ ys. g x ∷ ys) (map_within f g xs (λ y c. h y (Contains-cons x xs y c)))

pub filter_all : (p : ℕ → Bool) (xs : List ℕ) → ((x : ℕ) → Contains xs x → p x ≡ true) → filter p xs ≡ xs
filter_all p [] h = refl
filter_all p (x ∷ xs) h =
    cond-true {A = List ℕ} (p x) (x ∷ filter p xs) (filter p xs) (h x (Contains-head x xs))
    ∙ ap (λ ys. x ∷ ys) (filter_all p xs (λ y c. h y (Contains-cons x xs y c)))

-- a number that isn't in the list goes to its end
insert_new : (f : ℕ → ℕ) (ts : List ℕ) (t s : ℕ) → ((u : ℕ) → Contains ts u → (t == u) ≡ false)
    → insert_entry nat_eq (map (λ u. (u, f u)) ts) t s ≡ map (λ u. (u, f u)) ts ++ (t, s) ∷ []
insert_new f [] t s new = refl
insert_new f (u ∷ ts) t s new =
    cond-false {A = List (ℕ × ℕ)} (t == u) ((u, s) ∷ map (λ x. (x, f x)) ts)
    ((u, f u) ∷ insert_entry nat_eq (map (λ x. (x, f x)) ts) t s) (new u (Contains-head u ts))
    ∙ ap (λ es. (u, f u) ∷ es) (insert_new f ts t s (λ x c. new x (Contains-cons u ts x c)))

-- of rising numbers the removed one is left out
remove_one : (f : ℕ → ℕ) (ts : List ℕ) (t : ℕ) → numbers_rise ts ≡ true
    → shift_remove_entry (nat_eq t) (map (λ u. (u, f u)) ts) ≡ map (λ u. (u, f u)) (filter (λ u. not (t == u)) ts)
remove_one f [] t rise = refl
remove_one f (u ∷ ts) t rise = elim (cases_Bool (t == u)) [
  | inl same ↦
      cond-true {A = List (ℕ × ℕ)} (t == u) (map (λ x. (x, f x)) ts)
      ((u, f u) ∷ shift_remove_entry (nat_eq t) (map (λ x. (x, f x)) ts)) same
      ∙ ap (map (λ x. (x, f x))) (sym
      (cond-false {A = List ℕ} (not (t == u)) (u ∷ filter (λ x. not (t == x)) ts) (filter (λ x. not (t == x)) ts)
      (ap not same)
      ∙ filter_all (λ x. not (t == x)) ts (λ x c. ap not (false_from_ne_true (t == x)
      (λ e. (let less = number_below u ts x rise c in let a = eqb-true t u same in let b = eqb-true t x e in
      omega (arith, less, a, b)))))))
  | inr other ↦
      cond-false {A = List (ℕ × ℕ)} (t == u) (map (λ x. (x, f x)) ts)
      ((u, f u) ∷ shift_remove_entry (nat_eq t) (map (λ x. (x, f x)) ts)) other
      ∙ ap (λ es. (u, f u) ∷ es) (remove_one f ts t (numbers_rise-tail u ts rise))
      ∙ ap (map (λ x. (x, f x))) (sym (cond-true {A = List ℕ} (not (t == u)) (u ∷ filter (λ x. not (t == x)) ts)
      (filter (λ x. not (t == x)) ts) (ap not other)))
]

unended : (t : ℕ) (log : List Act) → Sound log → has_begun t log ≡ false
    → (has_committed t log || has_aborted t log) ≡ false
unended t log s f =
    let c = false_from_ne_true (has_committed t log) (λ e. both_ways _ f (committed_begun t log s e)) in
    let a = false_from_ne_true (has_aborted t log) (λ e. both_ways _ f (aborted_begun t log s e)) in
    rw (c, a) refl

module _ (t : ℕ) (log : List Act) (s : Sound log) (fresh : has_begun t log ≡ false) where
  apart : (u : ℕ) → Contains (begun log) u → (t == u) ≡ false
  apart u c = false_from_ne_true (t == u)
      (λ e. both_ways _ fresh (subst (λ x. has_begun x log ≡ true) (sym (eqb-true t u e)) (there_begun u log c)))

  -- the snapshots of the others stay
  snapshots_stay : (ts : List ℕ) → ((u : ℕ) → Contains ts u → (t == u) ≡ false)
      → with_snapshots ts (Begins t ∷ log) ≡ with_snapshots ts log
  snapshots_stay ts h = map_within (λ u. (u, snapshot u (Begins t ∷ log))) (λ u. (u, snapshot u log)) ts
      (λ u c. ap (λ n. (u, n)) (cond-false {A = ℕ} (t == u) (commit_count log) (snapshot u log) (h u c)))

  own_snapshot : with_snapshots (t ∷ []) (Begins t ∷ log) ≡ (t, commit_count log) ∷ []
  own_snapshot = ap (λ n. (t, n) ∷ []) (cond-true {A = ℕ} (t == t) (commit_count log) (snapshot t log) (eq-eqb t t refl))

  pub snapshots_then : with_snapshots (begun log) log ++ (t, commit_count log) ∷ []
      ≡ with_snapshots (begun (Begins t ∷ log)) (Begins t ∷ log)
  snapshots_then = sym (map-append (λ u. (u, snapshot u (Begins t ∷ log))) (begun log) (t ∷ [])
      ∙ ap (λ es. es ++ with_snapshots (t ∷ []) (Begins t ∷ log)) (snapshots_stay (begun log) apart)
      ∙ ap (λ es. with_snapshots (begun log) log ++ es) own_snapshot)

  open_then : open_txns (Begins t ∷ log) ≡ open_txns log ++ t ∷ []
  open_then = filter-append (λ u. is_open u (Begins t ∷ log)) (begun log) (t ∷ [])
      ∙ ap (λ us. us ++ filter (λ u. is_open u (Begins t ∷ log)) (t ∷ []))
      (filter_within (λ u. is_open u (Begins t ∷ log)) (λ u. is_open u log) (begun log)
      (λ u c. ap (λ b. (b || has_begun u log) && not (has_committed u log || has_aborted u log)) (apart u c)))
      ∙ ap (λ us. open_txns log ++ us) (cond-true {A = List ℕ} (is_open t (Begins t ∷ log)) (t ∷ []) []
      (ap (λ b. (b || has_begun t log) && not (has_committed t log || has_aborted t log)) (eq-eqb t t refl)
      ∙ ap not (unended t log s fresh)))

  not_there : (u : ℕ) → Contains (open_txns log) u → (t == u) ≡ false
  not_there u c = apart u (filter-source (λ x. is_open x log) (begun log) u c).0

  pub opened_then : insert_entry nat_eq (with_snapshots (open_txns log) log) t (commit_count log)
      ≡ with_snapshots (open_txns (Begins t ∷ log)) (Begins t ∷ log)
  opened_then = insert_new (λ u. snapshot u log) (open_txns log) t (commit_count log) not_there
      ∙ sym (ap (λ ts. with_snapshots ts (Begins t ∷ log)) open_then
      ∙ map-append (λ u. (u, snapshot u (Begins t ∷ log))) (open_txns log) (t ∷ [])
      ∙ ap (λ es. es ++ with_snapshots (t ∷ []) (Begins t ∷ log)) (snapshots_stay (open_txns log) not_there)
      ∙ ap (λ es. with_snapshots (open_txns log) log ++ es) own_snapshot)

module _ (t : ℕ) (log : List Act) (s : Sound log) where
  open_rise : numbers_rise (open_txns log) ≡ true
  open_rise = numbers_rise-filter (λ u. is_open u log) (begun log) (begun_rise log s)

  apart_from : (a b x d : Bool) → (a && not (b || (x || d))) ≡ (not x && (a && not (b || d)))
  apart_from true true true d = refl
  apart_from true true false d = refl
  apart_from true false true d = refl
  apart_from true false false d = refl
  apart_from false b true d = refl
  apart_from false b false d = refl

  apart_from_first : (a b x d : Bool) → (a && not ((x || b) || d)) ≡ (not x && (a && not (b || d)))
  apart_from_first true b true d = refl
  apart_from_first true b false d = refl
  apart_from_first false b true d = refl
  apart_from_first false b false d = refl

  left : (test : ℕ → Bool) → ((u : ℕ) → test u ≡ (not (t == u) && is_open u log))
      → shift_remove_entry (nat_eq t) (with_snapshots (open_txns log) log)
      ≡ with_snapshots (filter test (begun log)) log
  left test is = remove_one (λ u. snapshot u log) (open_txns log) t open_rise
      ∙ ap (λ ts. with_snapshots ts log) (sym (filter_within test (λ u. not (t == u) && is_open u log) (begun log) (λ u c. is u)
      ∙ filter_both (λ u. not (t == u)) (λ u. is_open u log) (begun log)))

  pub after_abort : shift_remove_entry (nat_eq t) (with_snapshots (open_txns log) log)
      ≡ with_snapshots (open_txns (Aborts t ∷ log)) (Aborts t ∷ log)
  after_abort = left (λ u. is_open u (Aborts t ∷ log))
      (λ u. apart_from (has_begun u log) (has_committed u log) (t == u) (has_aborted u log))

  pub after_commit : shift_remove_entry (nat_eq t) (with_snapshots (open_txns log) log)
      ≡ with_snapshots (open_txns (Commits t ∷ log)) (Commits t ∷ log)
  after_commit = left (λ u. is_open u (Commits t ∷ log))
      (λ u. apart_from_first (has_begun u log) (has_committed u log) (t == u) (has_aborted u log))
