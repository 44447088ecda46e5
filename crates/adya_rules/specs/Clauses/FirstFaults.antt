-- When a history breaks a rule at a line, and which of its faults is the first: of the broken rules by line and
-- number, of the reads by line and place in the event's list, and of the edges by their order.
use Rattle.std.specs.Prelude.{◌≡◌, ◌≢◌, ◌⊎◌, ℕ, ◌+◌, ◌==◌, ◌<◌, ◌≤◌, true, false, cond, List, ◌∷◌, ◌++◌, length, Some, slice_get, count_by, Contains}
use Rattle.adya_values.specs.declared.event.Version.{Version}
use Rattle.adya_values.specs.declared.fault.Rule.{Rule}
use Rattle.adya_values.specs.declared.fault.Rule.TheVariants.{M1, M2, M3, M4, M5, M6, M7, M8}
use Rattle.adya_keys.specs.Meaning.Keys.{Key, Bytes}
use Rattle.adya_values.specs.Meaning.Histories.{Txns, Entry, Event, Order, FinalPair, History}
use Rattle.adya_values.specs.Meaning.Events.{txn_of, observed, last_write, is_committed, is_unfinished, is_aborted}
use Rattle.adya_values.specs.Clauses.Rules.{has_ended, IsOpen, IsNumbered, WasWritten, SeesOwnWrites, IsRising, installs}
use Rattle.adya_values.specs.Meaning.Edges.{Edge}
use Rattle.adya_values.specs.Computing.EdgeList.{edge_list}
use Rattle.adya_values.specs.Computing.Faults.{last_value, unfinished_line, orders_line, finals_line, tail_line}
use Rattle.adya_values.specs.Clauses.Acceptance.{IsBefore}

-- the list has x right after the elements before it. Each element takes one line, the first one the line `start`,
-- and x is on this line
pub record IsOnLine {X : Type 0} (xs : List X) (start line : ℕ) (before : List X) (x : X) : Type 0 where
  pub after : List X
  pub splits : xs ≡ before ++ x ∷ after
  pub counts : line ≡ start + length before

-- the rule doesn't hold of the element on the line, given the elements before it
abbrev pub BreaksAt : {X : Type 0} → (List X → X → Type 0) → List X → ℕ → ℕ → Type 0
BreaksAt {X} Holds xs start line =
    (before : List X) × (x : X) × IsOnLine xs start line before x × (Holds before x → ⊥)

-- the same of the events, which begin after the head, on line 2
abbrev pub BreaksAtEvent : (List Event → Event → Type 0) → History → ℕ → Type 0
BreaksAtEvent Holds h line = BreaksAt Holds h.events 2 line

-- an unfinished transaction doesn't end
abbrev pub StaysOpen : History → ℕ → Type 0
StaysOpen h t = has_ended h.events t ≡ false

-- a transaction neither ends nor is unfinished
abbrev pub LeavesOpen : History → Type 0
LeavesOpen h =
    (e : Event) × Contains h.events e × (has_ended h.events (txn_of e) ≡ false) × (is_unfinished h (txn_of e) ≡ false)

-- the order line lists each committed writer of its key once, and nobody else
abbrev pub ListsWriters : History → Order → Type 0
ListsWriters h o = (t : ℕ) → count_by (λ u. u == t) o.writers ≡ cond (installs h.events o.key t) 1 0

-- there is no order line for a key that a committed transaction wrote
abbrev pub LacksOrder : History → Type 0
LacksOrder h =
    (k : Key) × (t : ℕ) × (installs h.events k t ≡ true) × ((o : Order) → Contains h.orders o → o.key ≢ k)

-- the last version of the final line's key is visible and has the line's value
abbrev pub ShowsLast : History → FinalPair → Type 0
ShowsLast h f = last_value h f.key ≡ Some f.value

-- there is no final line for a key with a visible last version
abbrev pub LacksFinal : History → Type 0
LacksFinal h =
    (k : Key) × (v : Bytes) × (last_value h k ≡ Some v) × ((f : FinalPair) → Contains h.finals f → f.key ≢ k)

-- the history breaks the rule at the line. A missing line counts for the first line after the part that it belongs to
abbrev pub BreaksRule : History → ℕ → Rule → Type 0
BreaksRule h line M1 = BreaksAtEvent IsOpen h line
BreaksRule h line M2 = BreaksAtEvent IsNumbered h line
BreaksRule h line M3 = BreaksAtEvent WasWritten h line
BreaksRule h line M4 = BreaksAtEvent SeesOwnWrites h line
BreaksRule h line M5 = BreaksAtEvent (λ before e. IsRising e) h line
BreaksRule h line M6 =
    BreaksAt (λ before t. StaysOpen h t) h.unfinished (unfinished_line h) line ⊎ ((line ≡ orders_line h) × LeavesOpen h)
BreaksRule h line M7 =
    BreaksAt (λ before o. ListsWriters h o) h.orders (orders_line h) line ⊎ ((line ≡ finals_line h) × LacksOrder h)
BreaksRule h line M8 =
    BreaksAt (λ before f. ShowsLast h f) h.finals (finals_line h) line ⊎ ((line ≡ tail_line h) × LacksFinal h)

-- the number of the rule
abbrev pub number : Rule → ℕ
number M1 = 1
number M2 = 2
number M3 = 3
number M4 = 4
number M5 = 5
number M6 = 6
number M7 = 7
number M8 = 8

-- the first place comes before the second, or is the same: by line, then by place
abbrev pub IsNoLater : ℕ → ℕ → ℕ → ℕ → Type 0
IsNoLater line place other_line other_place = (line < other_line) ⊎ ((line ≡ other_line) × (place ≤ other_place))

-- the history breaks the rule at the line, none at an earlier line, and none of a smaller number at this one
pub record IsFirstMalformed (h : History) (line : ℕ) (rule : Rule) : Type 0 where
  pub breaks : BreaksRule h line rule
  pub least : (l : ℕ) (r : Rule) → BreaksRule h l r → IsNoLater line (number rule) l (number r)

-- the event on the line is of a committed transaction, and reads or lists the entry at the place
pub record ReadsAt (h : History) (line place : ℕ) (e : Event) (o : Entry) : Type 0 where
  pub before : List Event
  pub on_line : IsOnLine h.events 2 line before e
  pub committed : is_committed h.events (txn_of e) ≡ true
  pub sees : slice_get (observed e) place ≡ Some o

-- such an event reads or lists, at the place, a version of an aborted transaction
abbrev pub ReadsAborted : History → ℕ → ℕ → Version → Type 0
ReadsAborted h line place v =
    (e : Event) × (o : Entry) × ReadsAt h line place e o × (o.version ≡ v) × (is_aborted h v.txn ≡ true)

-- such an event reads or lists, at the place, a version of another transaction that isn't its last write of the key
abbrev pub ReadsIntermediate : History → ℕ → ℕ → Version → Type 0
ReadsIntermediate h line place v =
    (e : Event) × (o : Entry) × ReadsAt h line place e o × (o.version ≡ v) × (v.txn ≢ txn_of e) ×
    (last_write v.txn v.key h.events ≢ Some o)

-- the version is read so on the line, and nothing is on an earlier line, or earlier in the list of that line's event
pub record IsFirstRead (Reads : ℕ → ℕ → Version → Type 0) (line : ℕ) (v : Version) : Type 0 where
  pub place : ℕ
  pub reads : Reads line place v
  pub least : (l p : ℕ) (w : Version) → Reads l p w → IsNoLater line place l p

abbrev pub IsFirstAbortedRead : History → ℕ → Version → Type 0
IsFirstAbortedRead h line v = IsFirstRead (ReadsAborted h) line v

abbrev pub IsFirstIntermediateRead : History → ℕ → Version → Type 0
IsFirstIntermediateRead h line v = IsFirstRead (ReadsIntermediate h) line v

-- the edge doesn't go forward in the certificate, and each edge before it in the list does
pub record IsFirstBackward (h : History) (ts : Txns) (e : Edge) : Type 0 where
  pub front : List Edge
  pub back : List Edge
  pub splits : edge_list h ≡ front ++ e ∷ back
  pub backward : IsBefore ts e.from e.to → ⊥
  pub forward : (x : Edge) → Contains front x → IsBefore ts x.from x.to
