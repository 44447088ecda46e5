-- The store keeps to the conditions of the store of versions, and no collection leaves out an open snapshot.
use Rattle.std.specs.List.{AllPairs, Contains, cons_option, filter_map}
use Rattle.std.proofs.Common.{List, None, Option, Some, [], arith, false, inl, inr, refl, subst, sym, true, ℕ, ◌==◌, ◌∷◌, ◌≡◌, ◌≤◌}
use Rattle.std.proofs.lemmas.Bool.{cases_Bool, cond-false, cond-true, or_parts}
use Rattle.std.proofs.lemmas.List.Kept.{AllPairs-cons}
use Rattle.lemmas.proofs.Filters.{Contains-filter, filter_map-source}
use Rattle.lemmas.proofs.Members.{All-from_contained, Contains-map}
use Rattle.adya_values.specs.Meaning.Histories.{Entry}
use Rattle.adya_keys.specs.Meaning.Keys.{key_eq}
use Rattle.ssi_versions.specs.Clauses.Conditions.{AreInstallable, IsProtected, last_installed}
use Rattle.ssi_store.specs.Meaning.Acts.{Aborts, Act, Collects, Commits, Gets, Scans, Begins, Writes, has_aborted, has_committed, is_open, open_txns, begun}
use Rattle.ssi_store.specs.Meaning.Seeing.{changed, commit_count, own_keys, own_write, snapshot}
use Rattle.ssi_store.proofs.Closing.{open_to}
use Rattle.ssi_store.proofs.Lists.{pairs_head, pairs_tail}
use Rattle.ssi_store.proofs.SoundLogs.{Sound, open_from, begun_there}
use Rattle.ssi_store.proofs.TrackedCalls.{own_keys_apart}
use Rattle.ssi_store.proofs.OwnWrites.{own_write_is}

last_installed_is : (log : List Act) → last_installed (changed log) ≡ commit_count log
last_installed_is [] = refl
last_installed_is (Begins u ∷ log) = last_installed_is log
last_installed_is (Writes u k c ∷ log) = last_installed_is log
last_installed_is (Gets u k ∷ log) = last_installed_is log
last_installed_is (Scans u low high ∷ log) = last_installed_is log
last_installed_is (Commits u ∷ log) = refl
last_installed_is (Aborts u ∷ log) = last_installed_is log
last_installed_is (Collects ∷ log) = last_installed_is log

-- what is made of keys that differ, each of its own key, differs in keys
made_apart : (f : List ℕ → Option Entry) → ((j : List ℕ) (w : Entry) → f j ≡ Some w → w.version.key ≡ j)
    → (ks : List (List ℕ)) → AllPairs (λ j k. key_eq j k ≡ false) ks
    → AllPairs (λ v w. key_eq v.version.key w.version.key ≡ false) (filter_map f ks)
made_apart f own [] a = λ i j d l m. absurd (omega (arith, m))
made_apart f own (k ∷ ks) a = by_first (f k) refl
    (made_apart f own ks (pairs_tail (λ j k. key_eq j k ≡ false) k ks a))
  where
    by_first : (o : Option Entry) → f k ≡ o
        → AllPairs (λ v w. key_eq v.version.key w.version.key ≡ false) (filter_map f ks)
        → AllPairs (λ v w. key_eq v.version.key w.version.key ≡ false) (cons_option o (filter_map f ks))
    by_first None e rest = rest
    by_first (Some w) e rest =
        AllPairs-cons (λ v w. key_eq v.version.key w.version.key ≡ false) w (filter_map f ks)
        (All-from_contained (λ x. key_eq w.version.key x.version.key ≡ false) (filter_map f ks) (λ x c.
        let j = filter_map-source f ks x c in
        subst (λ y. key_eq y x.version.key ≡ false) (sym (own k w e))
        (subst (λ y. key_eq k y ≡ false) (sym (own j.0 x j.2))
        (pairs_head (λ j k. key_eq j k ≡ false) k ks j.0 a j.1)))) rest

pub changed_installable : (log : List Act) → AreInstallable (changed log)
changed_installable [] = tt
changed_installable (Begins u ∷ log) = changed_installable log
changed_installable (Writes u k c ∷ log) = changed_installable log
changed_installable (Gets u k ∷ log) = changed_installable log
changed_installable (Scans u low high ∷ log) = changed_installable log
changed_installable (Aborts u ∷ log) = changed_installable log
changed_installable (Collects ∷ log) = changed_installable log
changed_installable (Commits u ∷ log) = (
  let at = last_installed_is log in omega (arith, at),
  made_apart (λ k. own_write u k log) (λ j w e. (own_write_is u j log w e).1) (own_keys u log) (own_keys_apart u log),
  changed_installable log,
)

-- a snapshot at or above all stamps so far was left out by no collection
pub late_protected : (s : ℕ) (log : List Act) → commit_count log ≤ s → IsProtected s (changed log)
late_protected s [] l = tt
late_protected s (Begins u ∷ log) l = late_protected s log l
late_protected s (Writes u k c ∷ log) l = late_protected s log l
late_protected s (Gets u k ∷ log) l = late_protected s log l
late_protected s (Scans u low high ∷ log) l = late_protected s log l
late_protected s (Aborts u ∷ log) l = late_protected s log l
late_protected s (Commits u ∷ log) l = late_protected s log (omega (arith, l))
late_protected s (Collects ∷ log) l =
    (inr (let at = last_installed_is log in omega (arith, at, l)), late_protected s log l)

pub open_there : (t : ℕ) (log : List Act) → is_open t log ≡ true → Contains (open_txns log) t
open_there t log e = Contains-filter (λ u. is_open u log) (begun log) t
    (begun_there t log (open_from t log e).begun) e

-- no collection leaves out the snapshot of a transaction that is still open
pub open_protected : (log : List Act) → Sound log → (t : ℕ) → is_open t log ≡ true
    → IsProtected (snapshot t log) (changed log)
open_protected [] s t e = tt
open_protected (Writes u k c ∷ log) s t e = open_protected log s.1 t e
open_protected (Gets u k ∷ log) s t e = open_protected log s.1 t e
open_protected (Scans u low high ∷ log) s t e = open_protected log s.1 t e
open_protected (Aborts u ∷ log) s t e =
    let o = open_from t (Aborts u ∷ log) e in
    open_protected log s.1 t (open_to t log
    (record {
      begun = o.begun;
      uncommitted = o.uncommitted;
      unaborted = (or_parts (u == t) (has_aborted t log) o.unaborted).1;
    }))
open_protected (Commits u ∷ log) s t e =
    let o = open_from t (Commits u ∷ log) e in
    open_protected log s.1 t (open_to t log
    (record {
      begun = o.begun;
      uncommitted = (or_parts (u == t) (has_committed t log) o.uncommitted).1;
      unaborted = o.unaborted;
    }))
open_protected (Collects ∷ log) s t e =
    (inl (Contains-map (λ x. snapshot x log) (open_txns log) t (open_there t log e)), open_protected log s.1 t e)
open_protected (Begins u ∷ log) s t e =
    let o = open_from t (Begins u ∷ log) e in
    elim (cases_Bool (u == t)) [
      | inl same ↦ subst (λ n. IsProtected n (changed log))
          (sym (cond-true {A = ℕ} (u == t) (commit_count log) (snapshot t log) same))
          (late_protected (commit_count log) log (omega arith))
      | inr other ↦ subst (λ n. IsProtected n (changed log))
          (sym (cond-false {A = ℕ} (u == t) (commit_count log) (snapshot t log) other))
          (open_protected log s.1 t (open_to t log
          (record {
            begun = (let b = o.begun in rw other at b);
            uncommitted = o.uncommitted;
            unaborted = o.unaborted;
          })))
    ]
