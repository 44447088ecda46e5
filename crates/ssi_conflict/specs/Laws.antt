-- What ties pairs and pivots call by call to those that look back over all calls, that each pivot of the commit-order
-- rule is one of the two-pair rule, and why transactions that aren't kept can be forgotten.
use Rattle.std.specs.Prelude.{◌≡◌, ◌↔◌, ℕ, true, false, List, ◌∷◌, Option}
use Rattle.adya_keys.specs.Meaning.Keys.{Key}
use Rattle.ssi_conflict.specs.Meaning.Calls.{Call, Begins, Reads, Commits, Aborts, has_begun}
use Rattle.ssi_conflict.specs.Clauses.Allowed.{AreAllowed}
use Rattle.ssi_conflict.specs.Clauses.Pairs.{IsPair, IsPivot, IsOrderedPivot, IsSmallest}
use Rattle.ssi_conflict.specs.Computing.Steps.{adds, is_pair, smallest_pivot, smallest_ordered_pivot}
use Rattle.ssi_conflict.specs.Meaning.Kept.{is_kept}

-- the pairs that the calls add are exactly those that one finds by looking back
abbrev pub PairsAreFound : Type 0
PairsAreFound = (calls : List Call) → AreAllowed calls → (r u : ℕ) → (is_pair r u calls ≡ true) ↔ IsPair r u calls

-- the two-pair rule names the smallest pivot if there is one, and nothing otherwise; and no other answer is right
abbrev pub PivotsAreNamed : Type 0
PivotsAreNamed = (calls : List Call) → AreAllowed calls → (named : Option ℕ)
    → (smallest_pivot calls ≡ named) ↔ IsSmallest IsPivot calls named

-- likewise the commit-order rule
abbrev pub OrderedPivotsAreNamed : Type 0
OrderedPivotsAreNamed = (calls : List Call) → AreAllowed calls → (named : Option ℕ)
    → (smallest_ordered_pivot calls ≡ named) ↔ IsSmallest IsOrderedPivot calls named

-- each pivot of the commit-order rule is one of the two-pair rule
abbrev pub OrderedPivotsArePivots : Type 0
OrderedPivotsArePivots = (calls : List Call) (t : ℕ) → IsOrderedPivot t calls → IsPivot t calls

-- a pair stays for good
abbrev pub PairsStay : Type 0
PairsStay = (c : Call) (calls : List Call) → AreAllowed (c ∷ calls) → (r u : ℕ) → IsPair r u calls → IsPair r u (c ∷ calls)

-- beginning and aborting make no pair
abbrev pub BeginsMakeNoPair : Type 0
BeginsMakeNoPair = (t s : ℕ) (calls : List Call) → AreAllowed (Begins t s ∷ calls) → (r u : ℕ) → IsPair r u (Begins t s ∷ calls) → IsPair r u calls

-- aborting makes no pair
abbrev pub AbortsMakeNoPair : Type 0
AbortsMakeNoPair = (t : ℕ) (calls : List Call) (r u : ℕ) → IsPair r u (Aborts t ∷ calls) → IsPair r u calls

-- both transactions of a pair that comes with a call are kept before it
abbrev pub NewPairsAreKept : Type 0
NewPairsAreKept = (c : Call) (calls : List Call) → AreAllowed (c ∷ calls) → (r u : ℕ) → IsPair r u (c ∷ calls)
    → (IsPair r u calls → ⊥) → (is_kept r calls ≡ true) × (is_kept u calls ≡ true)

-- a transaction that isn't kept is never kept again
abbrev pub ForgottenForGood : Type 0
ForgottenForGood = (c : Call) (calls : List Call) → AreAllowed (c ∷ calls) → (t : ℕ) → has_begun t calls ≡ true
    → is_kept t calls ≡ false → is_kept t (c ∷ calls) ≡ false

-- a pivot that comes with a call is kept before it
abbrev pub NewPivotsAreKept : Type 0
NewPivotsAreKept = (c : Call) (calls : List Call) → AreAllowed (c ∷ calls) → (t : ℕ) → IsPivot t (c ∷ calls)
    → (IsPivot t calls → ⊥) → is_kept t calls ≡ true

-- likewise by the commit-order rule
abbrev pub NewOrderedPivotsAreKept : Type 0
NewOrderedPivotsAreKept = (c : Call) (calls : List Call) → AreAllowed (c ∷ calls) → (t : ℕ) → IsOrderedPivot t (c ∷ calls)
    → (IsOrderedPivot t calls → ⊥) → is_kept t calls ≡ true

-- by the commit-order rule a commit makes no pivot but of its own transaction
abbrev pub CommitMakesOwnPivot : Type 0
CommitMakesOwnPivot = (t n : ℕ) (ks : List Key) (calls : List Call) → AreAllowed (Commits t n ks ∷ calls) → (p : ℕ)
    → IsOrderedPivot p (Commits t n ks ∷ calls) → (IsOrderedPivot p calls → ⊥) → p ≡ t

-- a read makes only pivots of writers with which it makes a pair
abbrev pub ReadMakesWritersPivots : Type 0
ReadMakesWritersPivots = (t : ℕ) (low high : Key) (calls : List Call) → AreAllowed (Reads t low high ∷ calls) → (p : ℕ)
    → IsPivot p (Reads t low high ∷ calls) → (IsPivot p calls → ⊥) → adds (Reads t low high) calls t p ≡ true

-- likewise by the commit-order rule
abbrev pub ReadMakesWritersOrderedPivots : Type 0
ReadMakesWritersOrderedPivots = (t : ℕ) (low high : Key) (calls : List Call) → AreAllowed (Reads t low high ∷ calls) → (p : ℕ)
    → IsOrderedPivot p (Reads t low high ∷ calls) → (IsOrderedPivot p calls → ⊥) → adds (Reads t low high) calls t p ≡ true
