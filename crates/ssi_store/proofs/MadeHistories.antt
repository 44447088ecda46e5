-- The history that the recorder makes of the events of a sound log is that of the log.
use Rattle.std.specs.List.{Contains, filter, filter_map, IsDistinct}
use Rattle.std.proofs.Common.{Bool, List, [], ap, arith, cond, false, fold, inl, inr, is_some, length, nat_eq, refl, slice_get, subst, sym, true, ℕ, ◌++◌, ◌==◌, ◌∙◌, ◌∷◌, ◌≡◌, ◌≤◌}
use Rattle.std.proofs.lemmas.Bool.{eq-eqb, or_left, or_right, ne_eqb}
use Rattle.std.proofs.lemmas.List.{append-nil}
use Rattle.std.proofs.lemmas.List.Elements.{Contains-append_cases, filter-append}
use Rattle.std.proofs.lemmas.List.Sums.{fold-append}
use Rattle.lemmas.proofs.Booleans.{cond-at_most_one}
use Rattle.lemmas.proofs.Counts.{count, count_contained, count_rest, count_same}
use Rattle.lemmas.proofs.Members.{none_contained, recursion-from_contained}
use Rattle.adya_values.proofs.RisingNumbers.{only_one}
use Rattle.adya_values.specs.Meaning.Events.{last, last_write, shown}
use Rattle.adya_values.specs.Meaning.Histories.{FinalPair, History, Order}
use Rattle.adya_values.specs.Meaning.KeySets.{insert}
use Rattle.adya_values.specs.Meaning.Orders.{value_at, shown_by, writers}
use Rattle.adya_values.specs.Meaning.Serial.{visible_pair_of}
use Rattle.adya_values.specs.declared.edition.Edition.{Edition}
use Rattle.ssi_recorder.specs.Laws.{CommitsAreListed}
use Rattle.ssi_recorder.specs.Meaning.Recorded.{by_commit, history_of_events, last_shown, order_line, writers_by_commit, written_keys}
use Rattle.ssi_store.specs.Meaning.Acts.{Aborts, Act, Collects, Commits, Gets, Scans, Begins, Writes, has_committed}
use Rattle.ssi_store.specs.Meaning.Recording.{events}
use Rattle.ssi_store.specs.Meaning.Seeing.{commit_count, committed, keys, wrote}
use Rattle.ssi_store.proofs.Installed.{writers_are}
use Rattle.ssi_store.proofs.Lists.{filter_map_same, filter_within}
use Rattle.ssi_store.proofs.LoggedHistories.{history_of_log, installers}
use Rattle.ssi_store.proofs.Recorded.{commits_of_events, committers, made, own_of_events, versions, versions_of_events}
use Rattle.ssi_store.proofs.Rules.{own_stays}
use Rattle.ssi_store.proofs.SoundLogs.{Sound}
use Rattle.ssi_store.proofs.Stamps.{committers_count, contents_newest}
use Rattle.ssi_store.proofs.CheckedHistories.{last_value}

keys_of_versions : (log : List Act) → fold (λ ks w. insert w.version.key ks) [] (versions log) ≡ keys log
keys_of_versions [] = refl
keys_of_versions (Begins u ∷ log) = keys_of_versions log
keys_of_versions (Gets u k ∷ log) = keys_of_versions log
keys_of_versions (Scans u low high ∷ log) = keys_of_versions log
keys_of_versions (Commits u ∷ log) = keys_of_versions log
keys_of_versions (Aborts u ∷ log) = keys_of_versions log
keys_of_versions (Collects ∷ log) = keys_of_versions log
keys_of_versions (Writes u k c ∷ log) =
    fold-append (λ ks w. insert w.version.key ks) [] (versions log) (made u k c log ∷ [])
    ∙ ap (insert k) (keys_of_versions log)

written_keys_are : (log : List Act) → written_keys (events log) ≡ keys log
written_keys_are log = ap (λ ws. fold (λ ks w. insert w.version.key ks) [] ws) (versions_of_events log)
    ∙ keys_of_versions log

committer_committed : (t : ℕ) (log : List Act) → Contains (committers log) t → has_committed t log ≡ true
committer_committed t [] c = absurd (none_contained t c)
committer_committed t (Begins u ∷ log) c = committer_committed t log c
committer_committed t (Writes u k d ∷ log) c = committer_committed t log c
committer_committed t (Gets u k ∷ log) c = committer_committed t log c
committer_committed t (Scans u low high ∷ log) c = committer_committed t log c
committer_committed t (Aborts u ∷ log) c = committer_committed t log c
committer_committed t (Collects ∷ log) c = committer_committed t log c
committer_committed t (Commits u ∷ log) c =
    elim (Contains-append_cases (committers log) (u ∷ []) t c) [
      | inl old ↦ or_right (u == t) (has_committed t log) (committer_committed t log old)
      | inr new ↦ or_left (u == t) (has_committed t log) (eq-eqb u t (only_one u t new))
    ]

writers_of_committers : (k : List ℕ) (log : List Act) → Sound log
    → filter (λ t. wrote t k log) (committers log) ≡ installers k log
writers_of_committers k [] s = refl
writers_of_committers k (Begins u ∷ log) s = writers_of_committers k log s.1
writers_of_committers k (Gets u j ∷ log) s = writers_of_committers k log s.1
writers_of_committers k (Scans u low high ∷ log) s = writers_of_committers k log s.1
writers_of_committers k (Aborts u ∷ log) s = writers_of_committers k log s.1
writers_of_committers k (Collects ∷ log) s = writers_of_committers k log s.1
writers_of_committers k (Writes u j c ∷ log) s =
    filter_within (λ t. wrote t k (Writes u j c ∷ log)) (λ t. wrote t k log) (committers log) (λ t d.
    ap is_some (own_stays t k (Writes u j c) log s (committer_committed t log d))) ∙
    writers_of_committers k log s.1
writers_of_committers k (Commits u ∷ log) s =
    filter-append (λ t. wrote t k log) (committers log) (u ∷ []) ∙
    (ap (λ l. l ++ filter (λ t. wrote t k log) (u ∷ [])) (writers_of_committers k log s.1) ∙ by_test (wrote u k log))
  where
    by_test : (b : Bool) → installers k log ++ cond b (u ∷ []) [] ≡ cond b (installers k log ++ u ∷ [])
        (installers k log)
    by_test true = refl
    by_test false = append-nil (installers k log)

-- a list that has no number twice
distinct_when : (ts : List ℕ) → ((t : ℕ) → count ts t ≤ 1) → IsDistinct nat_eq ts
unfolding IsDistinct
distinct_when [] once = _
distinct_when (t ∷ ts) once = (
  recursion-from_contained (λ u. nat_eq t u ≡ false) ts (λ u c. ne_eqb t u (λ e.
      let there = count_contained ts u c in
      let here = count_same t ts u e in
      let at_most = once u in
      omega (arith, there, here, at_most))),
  distinct_when ts (λ u. let at_most = once u in let rest = count_rest t ts u in omega (arith, at_most, rest)),
)

committers_distinct : (log : List Act) → Sound log → IsDistinct nat_eq (committers log)
committers_distinct log s = distinct_when (committers log) (λ t.
    let is = committers_count t log s in
    let at_most = cond-at_most_one (has_committed t log) in
    omega (arith, is, at_most))

last_slice : (x : ℕ) (xs : List ℕ) → slice_get (x ∷ xs) (length xs) ≡ last (x ∷ xs)
last_slice x [] = refl
last_slice x (y ∷ ys) = last_slice y ys

shown_is : (h : History) (k : List ℕ) (ws : List ℕ) → writers h k ≡ ws
    → shown_by k h.events (last ws) ≡ value_at h k (length ws)
shown_is h k [] e = refl
shown_is h k (x ∷ xs) e =
    ap (shown_by k h.events) (sym (last_slice x xs)) ∙ ap (λ l. shown_by k h.events (slice_get l (length xs))) (sym e)

-- that commits are listed one by one is a law of the recorder
module _ (listed : CommitsAreListed) where
  by_commit_are : (log : List Act) → Sound log → by_commit (events log) ≡ committers log
  by_commit_are log s =
      listed (events log) (subst (IsDistinct nat_eq) (sym (commits_of_events log)) (committers_distinct log s))
      ∙ commits_of_events log

  writers_by_commit_are : (k : List ℕ) (log : List Act) → Sound log → writers_by_commit k (events log) ≡ installers k log
  writers_by_commit_are k log s =
      ap (filter (λ t. is_some (last_write t k (events log)))) (by_commit_are log s) ∙
      (filter_within (λ t. is_some (last_write t k (events log))) (λ t. wrote t k log) (committers log)
      (λ t c. ap is_some (own_of_events t k log)) ∙
      writers_of_committers k log s)

  last_shown_is : (k : List ℕ) (log : List Act) → Sound log → (edition : Edition)
      → last_shown k (events log) ≡ shown (committed k (commit_count log) log)
  last_shown_is k log s edition =
      ap (λ l. shown_by k (events log) (last l)) (writers_by_commit_are k log s) ∙
      (shown_is (history_of_log edition [] log) k (installers k log) (writers_are edition [] k log) ∙
      last_value edition [] k log s (committed k (commit_count log) log) refl
      (contents_newest k (commit_count log) log s) (length (installers k log)) refl)

  pub recorder_makes : (edition : Edition) (unfinished : List ℕ) (log : List Act) → Sound log
      → history_of_events edition unfinished (events log) ≡ history_of_log edition unfinished log
  recorder_makes edition unfinished log s =
      ap (λ ks. with (filter_map (λ k. order_line k (writers_by_commit k (events log))) ks)
      (filter_map (λ k. visible_pair_of k (last_shown k (events log))) ks)) (written_keys_are log) ∙
      (ap (λ os. with os (filter_map (λ k. visible_pair_of k (last_shown k (events log))) (keys log)))
      (filter_map_same (λ k. order_line k (writers_by_commit k (events log))) (λ k. order_line k (installers k log))
      (keys log) (λ k. ap (order_line k) (writers_by_commit_are k log s))) ∙
      ap (with (filter_map (λ k. order_line k (installers k log)) (keys log)))
      (filter_map_same (λ k. visible_pair_of k (last_shown k (events log)))
      (λ k. visible_pair_of k (shown (committed k (commit_count log) log))) (keys log)
      (λ k. ap (visible_pair_of k) (last_shown_is k log s edition))))
    where
      with : List Order → List FinalPair → History
      with os fs = record { edition = edition; events = events log; unfinished = unfinished; orders = os; finals = fs }
