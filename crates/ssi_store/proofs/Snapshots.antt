-- The snapshots of a course's transactions, by the list that a finished store has.
use Rattle.std.specs.List.{Contains}
use Rattle.std.proofs.Common.{List, [], ap, arith, false, inl, inr, map, refl, subst, sym, true, ℕ, ◌==◌, ◌∙◌, ◌∷◌, ◌≡◌}
use Rattle.std.proofs.lemmas.Bool.{both_ways, cases_Bool, cond-false, cond-true, eq-eqb, eqb-true, ne_eqb, or_parts}
use Rattle.lemmas.proofs.Members.{Contains-cases, Contains-cons, Contains-head, none_contained}
use Rattle.adya_values.specs.Computing.Shapes.{numbers_rise}
use Rattle.adya_values.specs.Meaning.Edges.{Edge}
use Rattle.adya_values.specs.Meaning.Events.{txn_of}
use Rattle.adya_values.specs.Meaning.Histories.{History}
use Rattle.snapshot_histories.specs.Clauses.Snapshots.{AreConcurrent, IsDangerous, IsNewestWithin, IsSnapshotHistory}
use Rattle.ssi_store.specs.Meaning.Acts.{Aborts, Act, Commits, Gets, Scans, Begins, acts, has_begun, begun}
use Rattle.ssi_store.specs.Meaning.Courses.{Course}
use Rattle.ssi_store.specs.Clauses.Coverage.{course_snapshot, snapshot_in}
use Rattle.ssi_store.specs.Meaning.Seeing.{commit_count, snapshot}
use Rattle.ssi_store.specs.Meaning.Tracked.{tracked}
use Rattle.ssi_conflict.proofs.Begun.{begun_rise as told_rise, there_begun as told_there}
use Rattle.ssi_store.proofs.SoundLogs.{Sound, begun_there}
use Rattle.ssi_store.proofs.TrackedCalls.{begun_are, begun_told, tracked_allowed}

pub begun_rise : (log : List Act) → Sound log → numbers_rise (begun log) ≡ true
begun_rise log s = subst (λ l. numbers_rise l ≡ true) (begun_are log)
    (told_rise (tracked log) (tracked_allowed log s))

-- the snapshots in the list are those of the log
snapshot_found : (f : ℕ → ℕ) (ts : List ℕ) (t : ℕ) → Contains ts t → snapshot_in (map (λ u. (u, f u)) ts) t ≡ f t
snapshot_found f [] t c = absurd (none_contained t c)
snapshot_found f (u ∷ ts) t c =
    elim (cases_Bool (u == t)) [
      | inl same ↦ cond-true {A = ℕ} (u == t) (f u) (snapshot_in (map (λ x. (x, f x)) ts) t) same
          ∙ ap f (eqb-true u t same)
      | inr other ↦ cond-false {A = ℕ} (u == t) (f u) (snapshot_in (map (λ x. (x, f x)) ts) t) other
          ∙ snapshot_found f ts t (behind c other)
    ]
  where
    behind : Contains (u ∷ ts) t → (u == t) ≡ false → Contains ts t
    behind d ne = elim (Contains-cases u ts t d) [ inl e ↦ absurd (both_ways _ ne (eq-eqb u t e)) | inr r ↦ r ]

snapshot_missing : (f : ℕ → ℕ) (ts : List ℕ) (t : ℕ) → (Contains ts t → ⊥) → snapshot_in (map (λ u. (u, f u)) ts) t ≡ 0
snapshot_missing f [] t h = refl
snapshot_missing f (u ∷ ts) t h =
    cond-false {A = ℕ} (u == t) (f u) (snapshot_in (map (λ x. (x, f x)) ts) t)
    (ne_eqb u t (λ e. h (subst (Contains (u ∷ ts)) e (Contains-head u ts)))) ∙
    snapshot_missing f ts t (λ c. h (Contains-cons u ts t c))

pub there_begun : (t : ℕ) (log : List Act) → Contains (begun log) t → has_begun t log ≡ true
there_begun t log c = sym (begun_told t log)
    ∙ told_there t (tracked log) (subst (λ l. Contains l t) (sym (begun_are log)) c)

unbegun : (t : ℕ) (log : List Act) → has_begun t log ≡ false → snapshot t log ≡ 0
unbegun t [] e = refl
unbegun t (Act.Writes u k c ∷ log) e = unbegun t log e
unbegun t (Gets u k ∷ log) e = unbegun t log e
unbegun t (Scans u low high ∷ log) e = unbegun t log e
unbegun t (Commits u ∷ log) e = unbegun t log e
unbegun t (Aborts u ∷ log) e = unbegun t log e
unbegun t (Act.Collects ∷ log) e = unbegun t log e
unbegun t (Begins u ∷ log) e =
    let both = or_parts (u == t) (has_begun t log) e in
    cond-false {A = ℕ} (u == t) (commit_count log) (snapshot t log) both.0 ∙ unbegun t log both.1

pub snapshot_is : (c : Course) (t : ℕ) → course_snapshot c t ≡ snapshot t (acts c)
snapshot_is c t =
    elim (cases_Bool (has_begun t (acts c))) [
      | inl holds ↦ snapshot_found (λ u. snapshot u (acts c)) (begun (acts c)) t (begun_there t (acts c) holds)
      | inr fails ↦ snapshot_missing (λ u. snapshot u (acts c)) (begun (acts c)) t
          (λ d. both_ways _ fails (there_begun t (acts c) d)) ∙ sym (unbegun t (acts c) fails)
    ]

-- with the same snapshots the same are concurrent, and so on
module _ (h : History) (f g : ℕ → ℕ) (same : (t : ℕ) → f t ≡ g t) where
  pub concurrent_same : (t u : ℕ) → AreConcurrent h g t u → AreConcurrent h f t u
  concurrent_same t u c =
      let at_t = same t in
      let at_u = same u in
      let after = c.ends_after in
      let before = c.begins_before in
      record {
        differ = c.differ;
        ends_after = omega (arith, at_u, after);
        begins_before = omega (arith, at_t, before);
      }

  pub snapshots_same : IsSnapshotHistory h f → IsSnapshotHistory h g
  snapshots_same s = record {
    begins_first = λ t c. let at = same t in let below = s.begins_first t c in omega (arith, at, below);
    sees_snapshot = λ e k p c sel. subst (λ n. IsNewestWithin h k n p) (same (txn_of e))
        (s.sees_snapshot e k p c sel);
    first_wins = λ k p q t u e d c. s.first_wins k p q t u e d (concurrent_same t u c);
    by_stamp = s.by_stamp;
  }

  pub danger_same : (into out : Edge) → IsDangerous h g into out → IsDangerous h f into out
  danger_same into out d = record {
    into_edge = d.into_edge;
    out_edge = d.out_edge;
    into_rw = d.into_rw;
    out_rw = d.out_rw;
    joined = d.joined;
    into_concurrent = concurrent_same into.from into.to d.into_concurrent;
    out_concurrent = concurrent_same out.from out.to d.out_concurrent;
    before_middle = d.before_middle;
    not_after_first = d.not_after_first;
  }
