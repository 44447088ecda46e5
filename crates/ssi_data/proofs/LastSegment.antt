-- The last of the segments that were found.
use Rattle.std.proofs.Common.{◌≡◌, ◌≤◌, ℕ, true, false, List, refl, inl, arith}
use Rattle.std.specs.BTreeSet.{BTreeSet, contains}
use Rattle.std.specs.Ordering.{nat_cmp, is_lt}
use Rattle.std.proofs.lemmas.Bool.Decides.{nat_tests}
use Rattle.sqlite_disk.specs.Events.{Event}
use Rattle.ssi_data.specs.Clauses.Segments.{IsLastOf}

not_above : (n m : ℕ) → is_lt (nat_cmp n m) ≡ false → m ≤ n
not_above n m is = grind (arith, nat_tests)

-- the greatest of them is the last one
pub greatest : (numbers : BTreeSet ℕ) (n : ℕ) (calls : List Event) → contains nat_cmp numbers n ≡ true
    → ((m : ℕ) → contains nat_cmp numbers m ≡ true → is_lt (nat_cmp n m) ≡ false) → IsLastOf numbers n calls calls
greatest numbers n calls there above = inl (there, λ m has. not_above n m (above m has), refl)
