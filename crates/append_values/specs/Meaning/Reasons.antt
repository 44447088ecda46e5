-- Why no order explains a history.
use Rattle.std.specs.Prelude.{◌≡◌, ◌≢◌, ◌<◌, ◌≤◌, ◌==◌, ◌⊎◌, ℕ, List, [], ◌∷◌, ◌++◌, Contains, count_by, length}
use Rattle.append_values.specs.declared.transaction.Outcome.TheVariants.{Committed, Aborted}
use Rattle.append_values.specs.declared.reason.Read.{Read}
use Rattle.append_values.specs.declared.reason.Link.{Link}
use Rattle.append_values.specs.declared.reason.Kind.{Kind}
use Rattle.append_values.specs.declared.reason.Kind.TheVariants as By
use Rattle.append_values.specs.declared.reason.Reason.{Reason}
use Rattle.append_values.specs.declared.reason.Reason.TheVariants.{Internal, Unrepeatable, Twice, Unwritten, DirtyUpdate, Future, Intermediate, Incompatible, Cycle}
use Rattle.append_values.specs.Meaning.Histories.{Operation, Read as ReadOf, History, outcome, operations}
use Rattle.append_values.specs.Meaning.Runs.{Explains}
use Rattle.append_values.specs.Meaning.Reads.{appended, own, HasRead, left, IsPrefixOf}

-- v read an element that u appended
pub record WriteRead (h : History) (u v : ℕ) : Type 0 where
  pub key : ℕ
  pub elements : List ℕ
  pub before : List Operation
  pub read : HasRead h v key elements before
  pub element : ℕ
  pub is_of : Contains (own h key u) element
  pub seen : Contains elements element
  pub differ : u ≢ v

-- a list that someone read begins with a part that has an element of u, and lacks one of v
pub record WriteWrite (h : History) (u v : ℕ) : Type 0 where
  pub reader : ℕ
  pub key : ℕ
  pub elements : List ℕ
  pub before : List Operation
  pub read : HasRead h reader key elements before
  pub part : List ℕ
  pub begins : IsPrefixOf part elements
  pub element : ℕ
  pub is_of : Contains (own h key u) element
  pub seen : Contains part element
  pub later : ℕ
  pub later_is_of : Contains (own h key v) later
  pub unseen : Contains part later → ⊥
  pub differ : u ≢ v

-- u read a list that lacks an element of v
pub record ReadWrite (h : History) (u v : ℕ) : Type 0 where
  pub key : ℕ
  pub elements : List ℕ
  pub before : List Operation
  pub read : HasRead h u key elements before
  pub element : ℕ
  pub is_of : Contains (own h key v) element
  pub unseen : Contains elements element → ⊥
  pub differ : u ≢ v

-- u has to come before v
abbrev pub Precedes : History → ℕ → ℕ → Type 0
Precedes h u v = WriteRead h u v ⊎ (WriteWrite h u v ⊎ ReadWrite h u v)

-- a read of a committed transaction, with its key, what it returned, and the steps before it
pub record IsRead (h : History) (read : Read) : Type 0 where
  pub key : ℕ
  pub elements : List ℕ
  pub before : List Operation
  pub has_read : HasRead h read.transaction key elements before
  pub step : length before ≡ read.step

-- the named read is the one after these steps of this transaction
abbrev pub IsNamed : ℕ → List Operation → Read → Type 0
IsNamed t before read = (t ≡ read.transaction) × (length before ≡ read.step)

-- the link's first transaction has to come before its second one, as its kind says, and the read that shows it is the named one
abbrev pub IsDue : History → (u v : ℕ) → Kind → Type 0
IsDue h u v (By.WriteRead read) = (w : WriteRead h u v) × IsNamed v w.before read
IsDue h u v (By.ReadWrite read) = (w : ReadWrite h u v) × IsNamed u w.before read
IsDue h u v (By.WriteWrite read) = (w : WriteWrite h u v) × IsNamed w.reader w.before read

-- links from one transaction to another, one after the other
abbrev pub IsChain : History → ℕ → List Link → ℕ → Type 0
IsChain h s [] t = s ≡ t
IsChain h s (link ∷ links) t = (link.from ≡ s) × IsDue h link.from link.to link.kind × IsChain h link.to links t

-- at least one link, and back to the first transaction
abbrev pub IsRound : History → List Link → Type 0
IsRound h [] = ⊥
IsRound h (link ∷ links) = IsChain h link.from (link ∷ links) link.from

-- each transaction begins one of the links at most
abbrev pub IsSimple : List Link → Type 0
IsSimple links = (t : ℕ) → count_by (λ (link : Link). link.from == t) links ≤ 1

-- no aborted transaction begins one of the links
abbrev pub AreKept : History → List Link → Type 0
AreKept h links = (link : Link) → Contains links link → outcome h link.from ≡ Aborted → ⊥

-- the reason is there
abbrev pub Holds : History → Reason → Type 0
Holds h (Internal read) = (r : IsRead h read) × ((front : List ℕ) → r.elements ≡ front ++ appended r.key r.before → ⊥)
Holds h (Unrepeatable first second) = (r : IsRead h first) × (s : IsRead h second) × (between : List Operation)
    × (second.transaction ≡ first.transaction) × (s.key ≡ r.key) × (s.before ≡ r.before ++ ReadOf r.key r.elements ∷ between)
    × (r.elements ++ appended r.key between ≡ s.elements → ⊥)
Holds h (Twice read x) = (r : IsRead h read) × (1 < count_by (λ y. y == x) r.elements)
Holds h (Unwritten read x) = (r : IsRead h read) × Contains r.elements x × ((u : ℕ) → Contains (own h r.key u) x → ⊥)
Holds h (DirtyUpdate read x y) = (r : IsRead h read) × (front : List ℕ) × (back : List ℕ) × (r.elements ≡ front ++ y ∷ back)
    × Contains front x × ((u : ℕ) → Contains (own h r.key u) x → ⊥)
    × ((u : ℕ) × (outcome h u ≡ Aborted) × Contains (appended r.key (operations h u)) x)
    × ((u : ℕ) × (outcome h u ≡ Committed) × Contains (own h r.key u) y)
Holds h (Future read x) = (r : IsRead h read) × Contains r.elements x × Contains (appended r.key r.has_read.rest) x
Holds h (Intermediate read u) = (r : IsRead h read) × (x : ℕ) × Contains r.elements x × Contains (own h r.key u) x × (u ≢ read.transaction)
    × ((front back : List ℕ) → r.elements ≡ front ++ (own h r.key u ++ back) → ⊥)
Holds h (Incompatible one other) = (r : IsRead h one) × (s : IsRead h other) × (r.key ≡ s.key) × (one.transaction ≢ other.transaction)
    × (IsPrefixOf (left h one.transaction r.key r.elements r.before r.has_read) (left h other.transaction s.key s.elements s.before s.has_read) → ⊥)
    × (IsPrefixOf (left h other.transaction s.key s.elements s.before s.has_read) (left h one.transaction r.key r.elements r.before r.has_read) → ⊥)
Holds h (Cycle links) = IsRound h links.items × IsSimple links.items × AreKept h links.items

-- no order explains the history
abbrev pub HasNoOrder : History → Type 0
HasNoOrder h = (ts : List ℕ) → Explains ts h → ⊥
