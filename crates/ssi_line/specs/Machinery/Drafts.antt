-- Bytes that are gathered for a device.
use Rattle.std.specs.Prelude.{◌≡◌, ◌++◌, ℕ, List, true, false, Option}
use Rattle.std.specs.Io.KnownBytes.{Appends}
use Rattle.devices.specs.declared.watched.Watched.{Watched}
use Rattle.devices.specs.Mirror.{has_failed, watched_contents}
use Rattle.devices.specs.Clauses.Writing.{Broke}

-- of the bytes all but those of the draft were appended
pub record Gathered {D : Type 0} (contents : D → Option (List ℕ)) (old new : Watched D) (bytes draft : List ℕ)
    : Type 0 where
  pub front : List ℕ
  pub parts : bytes ≡ front ++ draft
  pub appends : Appends (watched_contents contents old) (watched_contents contents new) front

-- these bytes were added to what the draft held before: a device that had failed is as it was, and one that fails now took
-- a front of both
pub record Added {D : Type 0} (contents : D → Option (List ℕ)) (old : Watched D) (before : List ℕ) (new : Watched D)
    (draft : List ℕ) (bytes : List ℕ) : Type 0 where
  pub kept : has_failed old ≡ true → new ≡ old
  pub broke : has_failed old ≡ false → has_failed new ≡ true → Broke contents old new (before ++ bytes)
  pub gathered : has_failed new ≡ false → Gathered contents old new (before ++ bytes) draft
