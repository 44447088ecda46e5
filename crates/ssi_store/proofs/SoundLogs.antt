-- What the store carries out, one act after the other, and first facts of it.
use Rattle.std.specs.List.{Contains}
use Rattle.std.proofs.Common.{Bool, List, None, Option, Some, [], arith, false, if◌then◌else◌, inl, inr, nat_le, not, refl, subst, suc, sym, true, ℕ, ◌&&◌, ◌<◌, ◌==◌, ◌||◌, ◌∙◌, ◌∷◌, ◌≡◌, ◌≤◌}
use Rattle.std.proofs.lemmas.Bool.{and_parts, both_ways, cases_Bool, cond-false, cond-true, eqb-true, false_from_ne_true, not-true, or_cases, or_from, or_left, or_parts, or_right}
use Rattle.std.proofs.lemmas.List.Elements.{Contains-append_left, Contains-append_right}
use Rattle.std.proofs.lemmas.Option.{none-some, same_Some}
use Rattle.lemmas.proofs.Members.{Contains-head}
use Rattle.adya_keys.specs.Meaning.Keys.{key_eq, key_le, lies_in}
use Rattle.ssi_conflict.specs.Meaning.Calls.{Call}
use Rattle.ssi_store.specs.Meaning.Acts.{Aborts, Act, Collects, Commits, Gets, Scans, Begins, Writes, has_aborted, has_committed, has_begun, is_open, begun}
use Rattle.ssi_store.specs.Meaning.Replies.{conflict}
use Rattle.ssi_store.specs.Meaning.Seeing.{commit_count, snapshot, wrote}
use Rattle.ssi_store.specs.Meaning.Tracked.{tracked}

pub record Allowed_commit (t : ℕ) (log : List Act) : Type 0 where
  pub opened : is_open t log ≡ true
  pub no_conflict : conflict t log ≡ None

-- the act can be carried out after those
abbrev pub Allowed : Act → List Act → Type 0
Allowed (Begins t) log = (u : ℕ) → has_begun u log ≡ true → u < t
Allowed (Writes t k c) log = is_open t log ≡ true
Allowed (Gets t k) log = is_open t log ≡ true
Allowed (Scans t low high) log = (is_open t log ≡ true) × (key_le low high ≡ true)
Allowed (Commits t) log = Allowed_commit t log
Allowed (Aborts t) log = is_open t log ≡ true
Allowed Collects log = Unit {0}

abbrev pub Sound : List Act → Type 0
Sound [] = Unit {0}
Sound (a ∷ log) = Allowed a log × Sound log

-- after which reads and commits no pivot may stand
abbrev pub SafeAct : (List Call → Option ℕ) → Act → List Act → Type 0
SafeAct pivot (Gets t k) log = pivot (tracked (Gets t k ∷ log)) ≡ None
SafeAct pivot (Scans t low high) log = pivot (tracked (Scans t low high ∷ log)) ≡ None
SafeAct pivot (Commits t) log = pivot (tracked (Commits t ∷ log)) ≡ None
SafeAct pivot (Begins t) log = Unit {0}
SafeAct pivot (Writes t k c) log = Unit {0}
SafeAct pivot (Aborts t) log = Unit {0}
SafeAct pivot Collects log = Unit {0}

abbrev pub Safe : (List Call → Option ℕ) → List Act → Type 0
Safe pivot [] = Unit {0}
Safe pivot (a ∷ log) = SafeAct pivot a log × Safe pivot log

-- a recorded read of the transaction meets the key; a get of a key that it has written meets nothing
abbrev pub has_read : ℕ → List ℕ → List Act → Bool
has_read r k [] = false
has_read r k (Gets t j ∷ log) = ((t == r) && key_eq j k && not (wrote t j log)) || has_read r k log
has_read r k (Scans t low high ∷ log) = ((t == r) && lies_in low high k) || has_read r k log
has_read r k (a ∷ log) = has_read r k log

-- the nth commit has stamp n
abbrev pub stamp : ℕ → List Act → Option ℕ
stamp t [] = None
stamp t (Commits u ∷ log) = if u == t then Some (suc (commit_count log)) else stamp t log
stamp t (a ∷ log) = stamp t log

-- the stamp is at or below the snapshot
abbrev pub is_upto : Option ℕ → ℕ → Bool
is_upto None n = false
is_upto (Some m) n = nat_le m n

-- t committed before u began
abbrev pub is_before : ℕ → ℕ → List Act → Bool
is_before t u log = is_upto (stamp t log) (snapshot u log)

pub record Open (t : ℕ) (log : List Act) : Type 0 where
  pub begun : has_begun t log ≡ true
  pub uncommitted : has_committed t log ≡ false
  pub unaborted : has_aborted t log ≡ false

pub open_from : (t : ℕ) (log : List Act) → is_open t log ≡ true → Open t log
open_from t log e =
    let both = and_parts _ _ e in
    let neither = or_parts _ _ (not-true _ both.1) in
    record { begun = both.0; uncommitted = neither.0; unaborted = neither.1 }

pub committed_begun : (t : ℕ) (log : List Act) → Sound log → has_committed t log ≡ true → has_begun t log ≡ true
committed_begun t [] s e = absurd (cc (e))
committed_begun t (Begins u ∷ log) s e = or_right _ _ (committed_begun t log s.1 e)
committed_begun t (Writes u k c ∷ log) s e = committed_begun t log s.1 e
committed_begun t (Gets u k ∷ log) s e = committed_begun t log s.1 e
committed_begun t (Scans u low high ∷ log) s e = committed_begun t log s.1 e
committed_begun t (Aborts u ∷ log) s e = committed_begun t log s.1 e
committed_begun t (Commits u ∷ log) s e =
    elim (or_cases _ _ e) [
      | inl same ↦ subst (λ x. has_begun x log ≡ true) (eqb-true u t same) (open_from u log s.0.opened).begun
      | inr there ↦ committed_begun t log s.1 there
    ]
committed_begun t (Collects ∷ log) s e = committed_begun t log s.1 e

pub aborted_begun : (t : ℕ) (log : List Act) → Sound log → has_aborted t log ≡ true → has_begun t log ≡ true
aborted_begun t [] s e = absurd (cc (e))
aborted_begun t (Begins u ∷ log) s e = or_right _ _ (aborted_begun t log s.1 e)
aborted_begun t (Writes u k c ∷ log) s e = aborted_begun t log s.1 e
aborted_begun t (Gets u k ∷ log) s e = aborted_begun t log s.1 e
aborted_begun t (Scans u low high ∷ log) s e = aborted_begun t log s.1 e
aborted_begun t (Commits u ∷ log) s e = aborted_begun t log s.1 e
aborted_begun t (Aborts u ∷ log) s e =
    elim (or_cases _ _ e) [
      | inl same ↦ subst (λ x. has_begun x log ≡ true) (eqb-true u t same) (open_from u log s.0).begun
      | inr there ↦ aborted_begun t log s.1 there
    ]
aborted_begun t (Collects ∷ log) s e = aborted_begun t log s.1 e

pub fresh : (t : ℕ) (log : List Act) → Allowed (Begins t) log → has_begun t log ≡ true → ⊥
fresh t log a e = let less = a t e in omega (arith, less)

-- whoever is in the log is not the one that begins
pub not_fresh : (t u : ℕ) (log : List Act) → Allowed (Begins t) log → has_begun u log ≡ true → (t == u) ≡ false
not_fresh t u log a e = false_from_ne_true _
    (λ same. fresh t log a (subst (λ x. has_begun x log ≡ true) (sym (eqb-true t u same)) e))

-- whoever has committed is not one that is open
pub not_open : (t u : ℕ) (log : List Act) → is_open t log ≡ true → has_committed u log ≡ true → (t == u) ≡ false
not_open t u log o e = false_from_ne_true _ (λ same. both_ways _ (open_from t log o).uncommitted
    (subst (λ x. has_committed x log ≡ true) (sym (eqb-true t u same)) e))

pub stamp_committed : (t n : ℕ) (log : List Act) → stamp t log ≡ Some n → has_committed t log ≡ true
stamp_committed t n [] e = absurd (none-some n e)
stamp_committed t n (Begins u ∷ log) e = stamp_committed t n log e
stamp_committed t n (Writes u k c ∷ log) e = stamp_committed t n log e
stamp_committed t n (Gets u k ∷ log) e = stamp_committed t n log e
stamp_committed t n (Scans u low high ∷ log) e = stamp_committed t n log e
stamp_committed t n (Aborts u ∷ log) e = stamp_committed t n log e
stamp_committed t n (Commits u ∷ log) e =
    elim (cases_Bool (u == t)) [
      | inl same ↦ or_left _ _ same
      | inr other ↦ or_right _ _ (stamp_committed t n log (rw other at e))
    ]
stamp_committed t n (Collects ∷ log) e = stamp_committed t n log e

pub committed_stamp : (t : ℕ) (log : List Act) → has_committed t log ≡ true → (n : ℕ) × (stamp t log ≡ Some n)
committed_stamp t [] e = absurd (cc (e))
committed_stamp t (Begins u ∷ log) e = committed_stamp t log e
committed_stamp t (Writes u k c ∷ log) e = committed_stamp t log e
committed_stamp t (Gets u k ∷ log) e = committed_stamp t log e
committed_stamp t (Scans u low high ∷ log) e = committed_stamp t log e
committed_stamp t (Aborts u ∷ log) e = committed_stamp t log e
committed_stamp t (Commits u ∷ log) e =
    elim (cases_Bool (u == t)) [
      | inl same ↦ (
        suc (commit_count log),
        cond-true {A = Option ℕ} (u == t) (Some (suc (commit_count log))) (stamp t log) same,
      )
      | inr other ↦
          let rest = committed_stamp t log (rw other at e) in
          (rest.0, cond-false {A = Option ℕ} (u == t) (Some (suc (commit_count log))) (stamp t log) other ∙ rest.1)
    ]
committed_stamp t (Collects ∷ log) e = committed_stamp t log e

pub snapshot_within : (t : ℕ) (log : List Act) → snapshot t log ≤ commit_count log
snapshot_within t [] = omega arith
snapshot_within t (Writes u k c ∷ log) = snapshot_within t log
snapshot_within t (Gets u k ∷ log) = snapshot_within t log
snapshot_within t (Scans u low high ∷ log) = snapshot_within t log
snapshot_within t (Aborts u ∷ log) = snapshot_within t log
snapshot_within t (Commits u ∷ log) = let rest = snapshot_within t log in omega (arith, rest)
snapshot_within t (Begins u ∷ log) =
    elim (cases_Bool (u == t)) [
      | inl same ↦ rw same (omega arith)
      | inr other ↦ rw other (snapshot_within t log)
    ]
snapshot_within t (Collects ∷ log) = snapshot_within t log

-- a stamp is above its transaction's snapshot, and within the number of commits
pub stamp_above : (t n : ℕ) (log : List Act) → Sound log → stamp t log ≡ Some n
    → (snapshot t log < n) × (n ≤ commit_count log)
stamp_above t n [] s e = absurd (none-some n e)
stamp_above t n (Writes u k c ∷ log) s e = stamp_above t n log s.1 e
stamp_above t n (Gets u k ∷ log) s e = stamp_above t n log s.1 e
stamp_above t n (Scans u low high ∷ log) s e = stamp_above t n log s.1 e
stamp_above t n (Aborts u ∷ log) s e = stamp_above t n log s.1 e
stamp_above t n (Begins u ∷ log) s e =
    let other = not_fresh u t log s.0 (committed_begun t log s.1 (stamp_committed t n log e)) in
    rw other (stamp_above t n log s.1 e)
stamp_above t n (Commits u ∷ log) s e =
    elim (cases_Bool (u == t)) [
      | inl same ↦
          let now = same_Some _ n (rw same at e) in
          let within = snapshot_within t log in
          (omega (arith, now, within), omega (arith, now))
      | inr other ↦
          let rest = stamp_above t n log s.1 (rw other at e) in
          let above = rest.0 in
          let within = rest.1 in
          (above, omega (arith, within))
    ]
stamp_above t n (Collects ∷ log) s e = stamp_above t n log s.1 e

-- no transaction both commits and aborts
pub not_both : (t : ℕ) (log : List Act) → Sound log → has_committed t log ≡ true → has_aborted t log ≡ false
not_both t [] s e = refl
not_both t (Begins u ∷ log) s e = not_both t log s.1 e
not_both t (Writes u k c ∷ log) s e = not_both t log s.1 e
not_both t (Gets u k ∷ log) s e = not_both t log s.1 e
not_both t (Scans u low high ∷ log) s e = not_both t log s.1 e
not_both t (Aborts u ∷ log) s e = or_from _ _ (not_open u t log s.0 e) (not_both t log s.1 e)
not_both t (Commits u ∷ log) s e =
    elim (or_cases _ _ e) [
      | inl same ↦ subst (λ x. has_aborted x log ≡ false) (eqb-true u t same) (open_from u log s.0.opened).unaborted
      | inr there ↦ not_both t log s.1 there
    ]
not_both t (Collects ∷ log) s e = not_both t log s.1 e

pub begun_there : (t : ℕ) (log : List Act) → has_begun t log ≡ true → Contains (begun log) t
begun_there t [] e = absurd (cc (e))
begun_there t (Writes u k c ∷ log) e = begun_there t log e
begun_there t (Gets u j ∷ log) e = begun_there t log e
begun_there t (Scans u low high ∷ log) e = begun_there t log e
begun_there t (Commits u ∷ log) e = begun_there t log e
begun_there t (Aborts u ∷ log) e = begun_there t log e
begun_there t (Collects ∷ log) e = begun_there t log e
begun_there t (Begins u ∷ log) e =
    elim (or_cases (u == t) (has_begun t log) e) [
      | inl same ↦ Contains-append_right (begun log) (u ∷ []) t
          (subst (Contains (u ∷ [])) (eqb-true u t same) (Contains-head u []))
      | inr there ↦ Contains-append_left (begun log) (u ∷ []) t (begun_there t log there)
    ]
