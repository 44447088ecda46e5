-- Which courses there are.
use Rattle.std.specs.Prelude.{Bool, true, nat_lt, ◌≡◌, ℕ, List, Option}
use Rattle.ssi_store.specs.Meaning.Courses.{Command, ScanFirst, Course, New, Then}
use Rattle.ssi_conflict.specs.Meaning.Calls.{Call}
use Rattle.ssi_store.specs.Meaning.Replies.{IsAnswer}

-- a limit is at least one row
abbrev pub is_proper : Command → Bool
is_proper (ScanFirst s low high n) = nat_lt 0 n
is_proper command = true

-- each command may be given, and each answer is one to the command after those before
abbrev pub Follows : (List Call → Option ℕ) → Course → Type 0
Follows pivot (New first) = Unit {0}
Follows pivot (Then c command answer) = (is_proper command ≡ true) × IsAnswer pivot c command answer × Follows pivot c
