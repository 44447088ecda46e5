-- The set of the transactions that a certificate lists.
use Rattle.std.specs.Prelude.{◌≡◌, ℕ, ◌==◌, Bool, true, cond, List, Option, Some, None, count_by}
use Rattle.std.specs.Ordering.{nat_cmp}
use Rattle.std.specs.BTreeSet.{BTreeSet, contains}
use Rattle.adya_values.specs.Meaning.Events.{commit_of}
use Rattle.adya_values.specs.Meaning.Histories.{Event}

-- the set holds the numbers of the list, and each is in the list once
abbrev pub HoldsEachOnce : BTreeSet ℕ → List ℕ → Type 0
HoldsEachOnce s ts = (t : ℕ) → count_by (λ u. u == t) ts ≡ cond (contains nat_cmp s t) 1 0

-- the transaction passes the test, if there is one
abbrev pub passes : (ℕ → Bool) → Option ℕ → Bool
passes test None = true
passes test (Some t) = test t

-- if the event is a commit, its transaction passes the test
abbrev pub commit_passes : (ℕ → Bool) → Event → Bool
commit_passes test e = passes test (commit_of e)
