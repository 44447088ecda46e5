-- What stays of a log when more acts follow. All transactions of the log have ended, so its end is a quiet moment.
use Rattle.std.proofs.Common.{◌≡◌, ℕ, ◌==◌, ◌≤◌, true, false, not, ◌&&◌, ◌||◌, List, [], ◌∷◌, ◌++◌, Option, Some, refl, sym, ◌∙◌, ap, arith, inl, inr, nat_lt}
use Rattle.std.proofs.lemmas.Bool.{and_left, both_ways, cases_Bool, cond-false, cond-true, le-ltb, not_from_false, and_from, or_from, or_right}
use Rattle.adya_values.specs.Meaning.Histories.{Entry}
use Rattle.ssi_store.specs.Meaning.Acts.{Act, Begins, Writes, Gets, Scans, Commits, Aborts, Collects, has_begun, has_committed, has_aborted, is_open}
use Rattle.ssi_store.specs.Meaning.Seeing.{commit_count, committed, own_write, snapshot, wrote}
use Rattle.ssi_store.proofs.OwnWrites.{committed_step}
use Rattle.ssi_store.proofs.SoundLogs.{Sound, not_both, stamp, stamp_above, committed_stamp}
use Rattle.ssi_store.proofs.Stamps.{committed_stays, stamp_stays}

pub sound_before : (more log : List Act) → Sound (more ++ log) → Sound log
sound_before [] log s = s
sound_before (a ∷ more) log s = sound_before more log s.1

count_grows : (more log : List Act) → commit_count log ≤ commit_count (more ++ log)
count_grows [] log = omega arith
count_grows (Begins u ∷ more) log = count_grows more log
count_grows (Writes u k c ∷ more) log = count_grows more log
count_grows (Gets u k ∷ more) log = count_grows more log
count_grows (Scans u low high ∷ more) log = count_grows more log
count_grows (Aborts u ∷ more) log = count_grows more log
count_grows (Collects ∷ more) log = count_grows more log
count_grows (Commits u ∷ more) log = let rest = count_grows more log in omega (arith, rest)

-- who begins after the log sees all that was committed in it
pub sees_log : (t : ℕ) (more log : List Act) → has_begun t log ≡ false → has_begun t (more ++ log) ≡ true
    → commit_count log ≤ snapshot t (more ++ log)
sees_log t [] log none begun = absurd (both_ways (has_begun t log) none begun)
sees_log t (Writes u k c ∷ more) log none begun = sees_log t more log none begun
sees_log t (Gets u k ∷ more) log none begun = sees_log t more log none begun
sees_log t (Scans u low high ∷ more) log none begun = sees_log t more log none begun
sees_log t (Aborts u ∷ more) log none begun = sees_log t more log none begun
sees_log t (Collects ∷ more) log none begun = sees_log t more log none begun
sees_log t (Commits u ∷ more) log none begun = sees_log t more log none begun
sees_log t (Begins u ∷ more) log none begun =
    elim (cases_Bool (u == t)) [
      | inl same ↦
          let now = cond-true {A = ℕ} (u == t) (commit_count (more ++ log)) (snapshot t (more ++ log)) same in
          let all = count_grows more log in
          omega (arith, now, all)
      | inr other ↦
          let now = cond-false {A = ℕ} (u == t) (commit_count (more ++ log)) (snapshot t (more ++ log)) other in
          let before = ap (λ b. b || has_begun t (more ++ log)) (sym other) ∙ begun in
          let rest = sees_log t more log none before in
          omega (arith, now, rest)
    ]

aborted_stays : (t : ℕ) (more log : List Act) → has_aborted t log ≡ true → has_aborted t (more ++ log) ≡ true
aborted_stays t [] log e = e
aborted_stays t (Begins u ∷ more) log e = aborted_stays t more log e
aborted_stays t (Writes u k c ∷ more) log e = aborted_stays t more log e
aborted_stays t (Gets u k ∷ more) log e = aborted_stays t more log e
aborted_stays t (Scans u low high ∷ more) log e = aborted_stays t more log e
aborted_stays t (Commits u ∷ more) log e = aborted_stays t more log e
aborted_stays t (Collects ∷ more) log e = aborted_stays t more log e
aborted_stays t (Aborts u ∷ more) log e = or_right (u == t) (has_aborted t (more ++ log)) (aborted_stays t more log e)

-- who has ended in the log doesn't commit after it
pub no_later_commit : (t : ℕ) (more log : List Act) → Sound (more ++ log) → has_begun t log ≡ true → is_open t log ≡ false
    → has_committed t (more ++ log) ≡ true → has_committed t log ≡ true
no_later_commit t more log s begun ended commits =
    elim (cases_Bool (has_committed t log)) [
      | inl done ↦ done
      | inr running ↦ elim (cases_Bool (has_aborted t log)) [
        | inl aborted ↦ absurd (both_ways (has_aborted t (more ++ log)) (not_both t (more ++ log) s commits)
            (aborted_stays t more log aborted))
        | inr neither ↦ absurd (both_ways (is_open t log) ended
            (and_from (has_begun t log) (not (has_committed t log || has_aborted t log)) begun
            (not_from_false (has_committed t log || has_aborted t log)
            (or_from (has_committed t log) (has_aborted t log) running neither))))
      ]
    ]

pub commit_stays : (t : ℕ) (more log : List Act) → has_committed t log ≡ true → has_committed t (more ++ log) ≡ true
commit_stays t [] log c = c
commit_stays t (a ∷ more) log c = committed_stays t a (more ++ log) (commit_stays t more log c)

stamp_kept : (t : ℕ) (more log : List Act) → Sound (more ++ log) → has_committed t log ≡ true
    → stamp t (more ++ log) ≡ stamp t log
stamp_kept t [] log s c = refl
stamp_kept t (a ∷ more) log s c =
    stamp_stays t a (more ++ log) s (commit_stays t more log c) ∙ stamp_kept t more log s.1 c

-- who has committed in the log has a stamp of its commits
pub stamp_within : (t : ℕ) (more log : List Act) → Sound (more ++ log) → has_committed t log ≡ true
    → (n : ℕ) × (stamp t (more ++ log) ≡ Some n) × (n ≤ commit_count log)
stamp_within t more log s c =
    let old = committed_stamp t log c in
    (old.0, stamp_kept t more log s c ∙ old.1, (stamp_above t old.0 log (sound_before more log s) old.1).1)

-- what its commits have left of a key
pub contents_kept : (k : List ℕ) (more log : List Act)
    → committed k (commit_count log) (more ++ log) ≡ committed k (commit_count log) log
contents_kept k [] log = refl
contents_kept k (Begins u ∷ more) log = contents_kept k more log
contents_kept k (Writes u j c ∷ more) log = contents_kept k more log
contents_kept k (Gets u j ∷ more) log = contents_kept k more log
contents_kept k (Scans u low high ∷ more) log = contents_kept k more log
contents_kept k (Aborts u ∷ more) log = contents_kept k more log
contents_kept k (Collects ∷ more) log = contents_kept k more log
contents_kept k (Commits u ∷ more) log =
    let s = commit_count log in
    let all = more ++ log in
    let late : nat_lt (commit_count all) s ≡ false = le-ltb (commit_count all) s (count_grows more log) in
    committed_step k s u all
    ∙ cond-false {A = Option Entry} (nat_lt (commit_count all) s && wrote u k all) (own_write u k all) (committed k s all)
    (and_left (nat_lt (commit_count all) s) (wrote u k all) late)
    ∙ contents_kept k more log
