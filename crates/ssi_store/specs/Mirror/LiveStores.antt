-- When a store without its history stands for a course.
use Rattle.std.specs.Prelude.{ℕ, Bool, List}
use Rattle.adya_keys.specs.Meaning.Keys.{Key}
use Rattle.ssi_versions.specs.Meaning.Changes.{Held}
use Rattle.ssi_versions.specs.declared.chains.Chains.{Ghosts as HeldBy}
use Rattle.ssi_reads.specs.declared.marks.Marks.{Ghosts as MarkedBy}
use Rattle.ssi_store.specs.Meaning.Courses.{Command, Answer, Course, Then}
use Rattle.ssi_store.specs.Mirror.Standing.{IsAt as IsEngineAt}
use Rattle.ssi_store.specs.declared.live_store.LiveStore.{LiveStore}

-- its engine stands for the course
abbrev pub IsAt : {C M : Type 0} {g : HeldBy C} {h : MarkedBy M} → (C → List Held) → (M → ℕ → Key → Bool)
    → LiveStore C M g h → Course → Type 0
IsAt holds marked s c = IsEngineAt holds marked (λ p es. Unit {0}) (λ p ts. Unit {0}) s.engine c

-- whatever course the old store stood for, the new one stands for it with this answer to this command
abbrev pub GoesOn : {C M : Type 0} {g : HeldBy C} {h : MarkedBy M} → (C → List Held) → (M → ℕ → Key → Bool)
    → (old new : LiveStore C M g h) → Command → Answer → Type 0
GoesOn holds marked old new command answer = (c : Course) → IsAt holds marked old c
    → IsAt holds marked new (Then c command answer)
