-- How often a call read to consume what it did.
use Rattle.std.specs.Prelude.{ℕ, ◌+◌, ◌≤◌, List, length, Option}
use Rattle.std.specs.Io.KnownBytes.{Consumes}

-- the call consumed these bytes, by at most one read for each of them, and `idle` reads more
pub record TookFewReads {D : Type 0} (remaining : D → Option (List ℕ)) (left : D → ℕ) (old new : D) (idle : ℕ) : Type 0 where
  pub bytes : List ℕ
  pub consumed : Consumes (remaining old) (remaining new) bytes
  pub few : left old ≤ left new + (length bytes + idle)
