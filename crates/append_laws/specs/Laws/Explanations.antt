-- What explaining a list-append history implies, and what implies it.
use Rattle.std.specs.Prelude.{◌≡◌, ◌≢◌, ◌<◌, ◌==◌, ◌↔◌, ℕ, List, ◌∷◌, ◌++◌, Contains, count_by, flat_map}
use Rattle.append_values.specs.Meaning.Histories.{Operation, Read, History, outcome}
use Rattle.append_values.specs.Meaning.Runs.{Occurs, Explains}
use Rattle.append_values.specs.Meaning.Reads.{appended, own, HasRead, left, AppendersDiffer, AppendsOnce, IsPrefixOf}
use Rattle.append_values.specs.declared.reason.Reason.{Reason}
use Rattle.append_values.specs.Meaning.Reasons.{Precedes, HasNoOrder, Holds}
use Rattle.digraph.specs.declared.arc.Arc.{Arc}
use Rattle.digraph.specs.Clauses.Graphs.{IsBefore, IsCycle}

-- the read returned all that some transactions appended, one after the other, and then its transaction's own appends so far
pub record IsWhole (h : History) (t k : ℕ) (xs : List ℕ) (before : List Operation) : Type 0 where
  pub writers : List ℕ
  pub once : (u : ℕ) → count_by (λ w. w == u) writers < 2
  pub others : (u : ℕ) → Contains writers u → (u ≢ t) × ((x : ℕ) × Contains (own h k u) x)
  pub splits : xs ≡ flat_map (own h k) writers ++ appended k before

abbrev pub AreWhole : History → Type 0
AreWhole h = (t k : ℕ) (xs : List ℕ) (before : List Operation) → HasRead h t k xs before → IsWhole h t k xs before

-- a read returned what the transactions before it in the order appended, and then its transaction's own appends so far
abbrev pub ReadsShowWhatCameBefore : Type 0
ReadsShowWhatCameBefore = (h : History) (ts front back : List ℕ) (t k : ℕ) (xs : List ℕ) (before : List Operation)
    → Explains ts h → ts ≡ front ++ t ∷ back → HasRead h t k xs before → flat_map (own h k) front ++ appended k before ≡ xs

-- each order that explains the history respects all precedences. A transaction that isn't listed counts as the last
abbrev pub PrecedencesAreNecessary : Type 0
PrecedencesAreNecessary = (h : History) (ts : List ℕ) (u v : ℕ) → AppendersDiffer h → Explains ts h → Precedes h u v → IsBefore ts u v

-- so a cycle of precedences refutes every order
abbrev pub CyclesRefute : Type 0
CyclesRefute = (h : History) (arcs path : List Arc) → AppendersDiffer h → ((a : Arc) → Contains arcs a → Precedes h a.from a.to)
    → IsCycle arcs path → HasNoOrder h

-- an order explains the history exactly if it lists the right transactions and respects all precedences, and all reads are whole
abbrev pub ExplainsExactly : Type 0
ExplainsExactly = (h : History) (ts : List ℕ) → AppendersDiffer h → AppendsOnce h
    → Explains ts h ↔ (((t : ℕ) → Occurs (outcome h t) (count_by (λ u. u == t) ts))
    × ((u v : ℕ) → Precedes h u v → IsBefore ts u v)
    × AreWhole h)

-- a read returned an element that no transaction appended, or only aborted ones
abbrev pub UnwrittenRefutes : Type 0
UnwrittenRefutes = (h : History) (t k x : ℕ) (xs : List ℕ) (before : List Operation) → HasRead h t k xs before → Contains xs x
    → ((u : ℕ) → Contains (own h k u) x → ⊥) → HasNoOrder h

-- two reads of a key returned lists of which neither begins with the other
abbrev pub IncompatibleRefutes : Type 0
IncompatibleRefutes = (h : History) (t u k : ℕ) (xs ys : List ℕ) (before earlier : List Operation)
    → HasRead h t k xs before → HasRead h u k ys earlier → (IsPrefixOf xs ys → ⊥) → (IsPrefixOf ys xs → ⊥) → HasNoOrder h

-- a read doesn't end with its transaction's own appends so far
abbrev pub InternalRefutes : Type 0
InternalRefutes = (h : History) (t k : ℕ) (xs : List ℕ) (before : List Operation) → HasRead h t k xs before
    → ((front : List ℕ) → xs ≡ front ++ appended k before → ⊥) → HasNoOrder h

-- a read returned an element that its own transaction appends only afterwards
abbrev pub FutureRefutes : Type 0
FutureRefutes = (h : History) (t k x : ℕ) (xs : List ℕ) (before : List Operation) → AppendersDiffer h → AppendsOnce h
    → (r : HasRead h t k xs before) → Contains xs x → Contains (appended k r.rest) x → HasNoOrder h

-- a read returned an element twice
abbrev pub TwiceRefutes : Type 0
TwiceRefutes = (h : History) (t k x : ℕ) (xs : List ℕ) (before : List Operation) → AppendersDiffer h → AppendsOnce h
    → HasRead h t k xs before → 1 < count_by (λ y. y == x) xs → HasNoOrder h

-- a read returned an element of another transaction, and not all that this one appended, side by side
abbrev pub IntermediateRefutes : Type 0
IntermediateRefutes = (h : History) (t u k x : ℕ) (xs : List ℕ) (before : List Operation) → AppendersDiffer h → HasRead h t k xs before
    → Contains xs x → Contains (own h k u) x → u ≢ t
    → ((front back : List ℕ) → xs ≡ front ++ (own h k u ++ back) → ⊥) → HasNoOrder h

-- a second read of a key returned something else than the first, with what was appended in between
abbrev pub UnrepeatableRefutes : Type 0
UnrepeatableRefutes = (h : History) (t k : ℕ) (xs ys : List ℕ) (before between : List Operation) → HasRead h t k xs before
    → HasRead h t k ys (before ++ Read k xs ∷ between) → (xs ++ appended k between ≡ ys → ⊥) → HasNoOrder h

-- two transactions left lists of a key of which neither begins with the other
abbrev pub ForkRefutes : Type 0
ForkRefutes = (h : History) (t u k : ℕ) (xs ys : List ℕ) (before earlier : List Operation)
    → (r : HasRead h t k xs before) (s : HasRead h u k ys earlier)
    → (IsPrefixOf (left h t k xs before r) (left h u k ys earlier s) → ⊥)
    → (IsPrefixOf (left h u k ys earlier s) (left h t k xs before r) → ⊥) → HasNoOrder h

-- where a read goes on, after whole appends of some writers, with an element of another transaction, and not with all that this one
-- appended, there the read returned only a part of it
abbrev pub BrokenBlocks : Type 0
BrokenBlocks = (h : History) (t k u x : ℕ) (xs rest writers : List ℕ) (before : List Operation) → AppendersDiffer h → HasRead h t k xs before
    → ((y : ℕ) → count_by (λ z. z == y) xs < 2) → xs ≡ flat_map (own h k) writers ++ ((x ∷ rest) ++ appended k before)
    → Contains (own h k u) x → u ≢ t → (IsPrefixOf (own h k u) (x ∷ rest) → ⊥)
    → (front back : List ℕ) → xs ≡ front ++ (own h k u ++ back) → ⊥

-- a reason that is there refutes every order, if no element is appended twice to the list of a key
abbrev pub ReasonsRefute : Type 0
ReasonsRefute = (h : History) (reason : Reason) → AppendersDiffer h → AppendsOnce h → Holds h reason → HasNoOrder h
