-- No pivot ever stands after a log whose reads and commits were judged.
use Rattle.ssi_store.proofs.SoundCourses.{Stands}
use Rattle.ssi_store.specs.Meaning.Courses.{Course}
use Rattle.std.proofs.Common.{List, None, Option, Some, [], refl, subst, ℕ, ◌∷◌, ◌≡◌}
use Rattle.ssi_conflict.specs.Meaning.Calls.{Call}
use Rattle.ssi_conflict.specs.Clauses.Pairs.{IsSmallest}
use Rattle.ssi_store.specs.Meaning.Acts.{Aborts, Act, Collects, Commits, Gets, Scans, Begins, Writes, acts}
use Rattle.ssi_store.specs.Meaning.Seeing.{commit_count}
use Rattle.ssi_store.specs.Meaning.Tracked.{tracked}
use Rattle.ssi_store.proofs.PivotRules.{IsRule}
use Rattle.ssi_store.proofs.SoundLogs.{Safe, Sound}
use Rattle.ssi_store.proofs.TrackedCalls.{tracked_allowed}

module _ (IsStanding : ℕ → List Call → Type 0) (pivot : List Call → Option ℕ) (rule : IsRule IsStanding pivot) where
  none_from : (log : List Act) → Sound log → pivot (tracked log) ≡ None → (p : ℕ) → IsStanding p (tracked log) → ⊥
  none_from log s e p h = subst (IsSmallest IsStanding (tracked log)) e
      (rule.names (tracked log) (tracked_allowed log s)) p h

  pub no_pivot : (log : List Act) → Sound log → Safe pivot log → (p : ℕ) → IsStanding p (tracked log) → ⊥
  no_pivot [] s f p h = rule.none_first p h
  no_pivot (Begins t ∷ log) s f p h = no_pivot log s.1 f.1 p
      (rule.before_begin t (commit_count log) p (tracked log) (tracked_allowed (Begins t ∷ log) s) h)
  no_pivot (Writes t k c ∷ log) s f p h = no_pivot log s.1 f.1 p h
  no_pivot (Gets t k ∷ log) s f p h = none_from (Gets t k ∷ log) s f.0 p h
  no_pivot (Scans t low high ∷ log) s f p h = none_from (Scans t low high ∷ log) s f.0 p h
  no_pivot (Commits t ∷ log) s f p h = none_from (Commits t ∷ log) s f.0 p h
  no_pivot (Aborts t ∷ log) s f p h = no_pivot log s.1 f.1 p (rule.before_abort t p (tracked log) h)
  no_pivot (Collects ∷ log) s f p h = no_pivot log s.1 f.1 p h

  -- so the rule names nothing
  pub nothing_named : (c : Course) → Stands pivot c → pivot (tracked (acts c)) ≡ None
  nothing_named c stands = by_name (pivot (tracked (acts c))) refl
      (rule.names (tracked (acts c)) (tracked_allowed (acts c) stands.sound))
    where
      by_name : (o : Option ℕ) → pivot (tracked (acts c)) ≡ o → IsSmallest IsStanding (tracked (acts c)) o
          → pivot (tracked (acts c)) ≡ None
      by_name None e least = e
      by_name (Some p) e least = absurd (no_pivot (acts c) stands.sound stands.safe p least.0)
