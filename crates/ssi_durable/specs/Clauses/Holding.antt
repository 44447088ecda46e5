-- On which lines rests what was given out.
use Rattle.std.specs.Prelude.{◌≡◌, ℕ, Bool, true, false, List, ◌++◌, length, Option, Some, None, if◌then◌else◌}
use Rattle.ssi_hub.specs.Clauses.Calls.{Call, steps_of}
use Rattle.ssi_durable.specs.declared.holds.Holds.{Holds}
use Rattle.ssi_durable.specs.declared.release.Release.{Release}
use Rattle.ssi_durable.specs.declared.release.Release.TheVariants.{Synced, Early}
use Rattle.ssi_durable.specs.Meaning.Early.{IsToldEarly, waits}
use Rattle.ssi_durable.specs.Meaning.Logs.{told}
use Rattle.ssi_durable.specs.Mirror.Holds.{all_wait, free_in}

-- only `committed` waits for the disk
abbrev pub is_early : Release → Bool
is_early Early = true
is_early Synced = false

-- What was written to the connection doesn't wait. If a reply waits and memory could hold that, then what isn't written before the
-- first that waits has so many bytes
pub record IsHeld (all : Bool) (free : Option ℕ) (t : ℕ) (sure recent : List Call) : Type 0 where
  pub told : IsToldEarly t sure recent
  pub free_is : all ≡ false → free ≡ (if waits (steps_of t recent) then Some (length told.unwritten) else None)

-- the same of all connections; `since` are the calls since the segment has begun
pub record AreHeld (holds : Holds) (sure since before : List Call) : Type 0 where
  pub recent : List Call
  pub cut : since ≡ recent ++ sure
  pub each : (t : ℕ) → IsHeld (all_wait holds) (free_in holds t) t (sure ++ before) recent

-- The lines of the calls `sure` are on the disk. By default these are all up to the last call that wrote something
abbrev pub RestsOn : (early : Bool) → Holds → (sure since before : List Call) → Type 0
RestsOn false holds sure since before = sure ≡ told since
RestsOn true holds sure since before = AreHeld holds sure since before
