-- What clauses see of the replies that wait.
use Rattle.std.specs.Prelude.{◌≡◌, ◌≢◌, ℕ, Bool, true, false, [], length, take, Option, Some, None, nat_eq, if◌then◌else◌}
use Rattle.std.specs.Map.{lookup}
use Rattle.adya_keys.specs.Meaning.Keys.{Bytes}
use Rattle.ssi_durable.specs.declared.holds.Holds.{Holds}

-- memory couldn't hold which replies wait, and all of them do
abbrev pub all_wait : Holds → Bool
all_wait holds = holds.all

-- of how many connections a reply waits, as far as memory could hold it
abbrev pub held_len : Holds → ℕ
held_len holds = length holds.free.entries

-- how many bytes may be given out to the connection, if a reply waits
abbrev pub free_in : Holds → ℕ → Option ℕ
free_in holds t = lookup (nat_eq t) holds.free.entries

-- of the bytes that are to be written to a connection those that may be given out
abbrev pub front_by : Bool → Option ℕ → Bytes → Bytes
front_by true free unsent = []
front_by false None unsent = unsent
front_by false (Some n) unsent = take n unsent

-- the first reply that waits stays the first
abbrev pub held_with : Option ℕ → ℕ → Option ℕ
held_with None before = Some before
held_with (Some n) before = Some n

-- a reply of the connection with so many bytes before it waits, or none, and those of the others wait as they did
pub record HasHeld (t before : ℕ) (waits : Bool) (old new : Holds) : Type 0 where
  pub was : all_wait new ≡ false → all_wait old ≡ false
  pub own : all_wait new ≡ false → free_in new t ≡ (if waits then held_with (free_in old t) before else free_in old t)
  pub others : all_wait new ≡ false → (u : ℕ) → u ≢ t → free_in new u ≡ free_in old u
