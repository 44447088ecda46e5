-- That a certificate lists exactly the committed transactions: the test, by counts and by the set of what it lists.
use Rattle.std.proofs.Common.{◌≡◌, ℕ, ◌==◌, ◌<◌, Bool, true, false, cond, ◌&&◌, List, refl, sym, ◌∙◌, ap, subst, arith, inl, inr}
use Rattle.std.specs.List.{list_all, Contains}
use Rattle.std.proofs.lemmas.Bool.{cases_Bool, cases_lt, eqb-true, eq-eqb, and_parts, and_from, false_from_ne_true}
use Rattle.adya_values.specs.Meaning.Histories.{Event, Write, Delete, Read, Scan, Commit, Abort}
use Rattle.adya_values.specs.Meaning.Events.{txn_of, commits, is_committed}
use Rattle.adya_values.specs.Computing.Faults.{lists_exactly}
use Rattle.lemmas.proofs.Booleans.{same_test, cond-at_most_one, cond-positive, positive-cond}
use Rattle.lemmas.proofs.Counts.{count, Contains-counted, count_contained}
use Rattle.lemmas.proofs.Tests.{all_pass, list_all_when, list_any-source, list_any_when}
use Rattle.adya_values.proofs.Writes.{commits_txn}
use Rattle.adya_audit.specs.Machinery.ExactlyTheCommitted.{commit_passes}

commit_listed : (test : ℕ → Bool) (t : ℕ) (e : Event) → commits t e ≡ true → commit_passes test e ≡ true → test t ≡ true
commit_listed test t (Write u k n v) c p = absurd (cc (c))
commit_listed test t (Delete u k n) c p = absurd (cc (c))
commit_listed test t (Read u r v) c p = absurd (cc (c))
commit_listed test t (Scan u low high es) c p = absurd (cc (c))
commit_listed test t (Commit u) c p = ap test (sym (eqb-true _ _ c)) ∙ p
commit_listed test t (Abort u) c p = absurd (cc (c))

module _ (events : List Event) (ts : List ℕ) where
  -- the test says that each committed number is there once, and no other
  counts_from_test : lists_exactly (is_committed events) ts events ≡ true → (t : ℕ)
      → count ts t ≡ cond (is_committed events t) 1 0
  counts_from_test all t =
      let parts = and_parts _ _ all in
      elim (cases_lt 0 (count ts t)) [
        | inl more ↦
            eqb-true _ _
            (all_pass (λ u. count ts u == cond (is_committed events u) 1 0) ts t parts.0 (Contains-counted ts t more))
        | inr none ↦
            elim (cases_Bool (is_committed events t)) [
              | inl c ↦
                  let e = list_any-source (commits t) events c in
                  eqb-true _ _ (subst (λ u. (count ts u == cond (is_committed events u) 1 0) ≡ true)
                  (commits_txn t e.0 e.2)
                  (all_pass (λ x. count ts (txn_of x) == cond (is_committed events (txn_of x)) 1 0) events e.0
                  parts.1 e.1))
              | inr c ↦ let zero_is : count ts t ≡ 0 = omega (arith, none) in zero_is ∙ ap (λ b. cond b 1 0) (sym c)
            ]
      ]

  test_from_counts : ((t : ℕ) → count ts t ≡ cond (is_committed events t) 1 0)
      → lists_exactly (is_committed events) ts events ≡ true
  test_from_counts all =
      and_from _ _
      (list_all_when (λ t. count ts t == cond (is_committed events t) 1 0) ts (λ t c. eq-eqb _ _ (all t)))
      (list_all_when (λ e. count ts (txn_of e) == cond (is_committed events (txn_of e)) 1 0) events
      (λ e c. eq-eqb _ _ (all (txn_of e))))

  -- a number that repeats fails the test
  pub twice_fails : (t : ℕ) → 1 < count ts t → lists_exactly (is_committed events) ts events ≡ false
  twice_fails t h =
      false_from_ne_true _ (λ all.
      let c = counts_from_test all t in
      let b = cond-at_most_one (is_committed events t) in
      absurd (omega (arith, c, b, h)))

  -- the test, if no number repeats
  module _ (is_in : ℕ → Bool) (counted : (t : ℕ) → count ts t ≡ cond (is_in t) 1 0) where
    counts_agree : list_all (is_committed events) ts ≡ true → list_all (commit_passes is_in) events ≡ true → (t : ℕ)
        → count ts t ≡ cond (is_committed events t) 1 0
    counts_agree a b t =
        let down : is_in t ≡ true → is_committed events t ≡ true =
        λ i.
        all_pass (is_committed events) ts t a
        (Contains-counted ts t (positive-cond (is_in t) (count ts t) (counted t) i)) in
        let up : is_committed events t ≡ true → is_in t ≡ true =
        λ c.
        let e = list_any-source (commits t) events c in
        commit_listed is_in t e.0 e.2 (all_pass (commit_passes is_in) events e.0 b e.1) in
        counted t ∙ ap (λ z. cond z 1 0) (same_test (is_in t) (is_committed events t) down up)

    all_found : lists_exactly (is_committed events) ts events ≡ true → list_all (is_committed events) ts ≡ true
    all_found all =
        list_all_when (is_committed events) ts (λ t c.
        cond-positive (is_committed events t) (count ts t) (counts_from_test all t) (count_contained ts t c))

    passes : lists_exactly (is_committed events) ts events ≡ true → (e : Event) → Contains events e
        → commit_passes is_in e ≡ true
    passes all (Write u k n v) c = refl
    passes all (Delete u k n) c = refl
    passes all (Read u r v) c = refl
    passes all (Scan u low high es) c = refl
    passes all (Commit u) c =
        let done = list_any_when (commits u) events (Commit u) c (eq-eqb u u refl) in
        cond-positive (is_in u) (count ts u) (counted u)
        (positive-cond (is_committed events u) (count ts u) (counts_from_test all u) done)
    passes all (Abort u) c = refl

    pub lists_by_set : (list_all (is_committed events) ts && list_all (commit_passes is_in) events)
        ≡ lists_exactly (is_committed events) ts events
    lists_by_set =
        same_test _ _
        (λ h. let p = and_parts _ _ h in test_from_counts (counts_agree p.0 p.1))
        (λ all. and_from _ _ (all_found all) (list_all_when (commit_passes is_in) events (passes all)))
