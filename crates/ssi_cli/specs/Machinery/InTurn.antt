-- How far the service of connections, one after the other, has come.
use Rattle.std.specs.Prelude.{◌≡◌, ℕ, Bool, List, length, Option}
use Rattle.adya_keys.specs.Meaning.Keys.{Bytes}
use Rattle.devices.specs.declared.watched.Watched.{Watched}
use Rattle.ssi_store.specs.Meaning.Courses.{Course}
use Rattle.ssi_line.specs.Clauses.Ends.{WentOn}
use Rattle.ssi_cli.specs.Clauses.Connections.{Connection, Follow, NoneStopped, steps_of}

-- so many connections were served, and none stopped the run: the listener and the store at first, and now
abbrev pub SoFar : {L R W T : Type 0} → (remaining : R → Option Bytes) → (is_failed : R → Bool) → (contents : W → Option Bytes)
    → (accepts closes : L → R → Watched W → L → Type 0) → (is_at : T → Course → Type 0) → L → T → L → T → (count : ℕ) → Type 0
SoFar remaining is_failed contents accepts closes is_at first store now after count =
    (connections : List (Connection remaining is_failed contents accepts closes)) × Follow first connections now
    × NoneStopped connections × (length connections ≡ count) × WentOn is_at store (steps_of connections) after
