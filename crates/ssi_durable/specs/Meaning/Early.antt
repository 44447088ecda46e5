-- Which replies wait for the disk if only `committed` does.
use Rattle.std.specs.Prelude.{◌≡◌, ℕ, Bool, true, false, ◌||◌, if◌then◌else◌, List, [], ◌∷◌, ◌++◌}
use Rattle.adya_keys.specs.Meaning.Keys.{Bytes}
use Rattle.ssi_store.specs.Meaning.Courses.{Answer, Committed}
use Rattle.ssi_line.specs.Meaning.Steps.{Step, Given, steps_text}
use Rattle.ssi_hub.specs.Clauses.Calls.{Call, steps_of, written_to}

abbrev pub is_commit_answer : Answer → Bool
is_commit_answer Committed = true
is_commit_answer answer = false

-- the transaction has committed
abbrev pub is_committed : Step → Bool
is_committed (Given c a) = is_commit_answer a
is_committed step = false

-- of steps, one after the other, those before the first that has committed: their replies don't wait
abbrev pub free : List Step → List Step
free [] = []
free (s ∷ steps) = if is_committed s then [] else s ∷ free steps

-- one of them has committed
abbrev pub waits : List Step → Bool
waits [] = false
waits (s ∷ steps) = is_committed s || waits steps

-- What was written to the connection is a front of the replies to its lines in the calls `sure`, and then to those in the calls
-- after them that don't wait
pub record IsToldEarly (t : ℕ) (sure recent : List Call) : Type 0 where
  pub unwritten : Bytes
  pub told : steps_text (steps_of t sure ++ free (steps_of t recent)) ≡ written_to t (recent ++ sure) ++ unwritten
