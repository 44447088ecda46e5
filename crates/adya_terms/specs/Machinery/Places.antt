-- What is known of the places of writers in the lines of their keys, when the last writes of committed transactions up to an index
-- are found. A place holds the index of its writer's last write of the key and 1, or 0 if that isn't found.
use Rattle.std.specs.Prelude.{◌≡◌, ℕ, zero, suc, ◌<◌, ◌==◌, Bool, true, false, not, ◌&&◌, List, Option, Some, None, length, slice_get, slice_index, get_or, count_by, map, option_map, MatchOption}
use Rattle.std.specs.List.{list_all, list_any}
use Rattle.adya_values.specs.Meaning.Histories.{Event, Order}
use Rattle.adya_keys.specs.Meaning.Keys.{Key, key_eq}
use Rattle.adya_values.specs.Meaning.Events.{is_committed, last_write}
use Rattle.adya_keys.specs.Machinery.Indices.{indices_in}
use Rattle.adya_values.specs.Mirror.Lines.{orders_of}
use Rattle.adya_values.specs.Clauses.Rules.{installs}
use Rattle.adya_values.specs.Computing.Faults.{lists_exactly}
use Rattle.adya_terms.specs.declared.line_places.LinePlaces.{LinePlaces}
use Rattle.adya_terms.specs.declared.placing.Placing.{Placing}
use Rattle.adya_terms.specs.Machinery.LinePlaces.{line_places}
use Rattle.adya_terms.specs.Machinery.Tables.{own, written_at, Own}
use Rattle.adya_terms.specs.Mirror.LineNumbers.{FindsLines}

-- the event at the index is the last write of the key by the transaction, which has committed
pub record Installs (all : List Event) (last : Own → Option ℕ) (k : List ℕ) (t at : ℕ) : Type 0 where
  pub committed : is_committed all t ≡ true
  pub last_is : last (own t k) ≡ Some at

-- an index is that of the last write of one key by one transaction alone
abbrev pub IsInjective : (Own → Option ℕ) → Type 0
IsInjective last = (t : ℕ) (k : List ℕ) (u : ℕ) (j : List ℕ) (at : ℕ) → last (own t k) ≡ Some at → last (own u j) ≡ Some at → (t ≡ u) × (k ≡ j)

-- the index that a place holds
abbrev pub held : ℕ → Option ℕ
held zero = None
held (suc at) = Some at

-- ---- a line of the key, by its writers and what their places hold

-- the index is that of the last write of the key by the writer at the place, and is before the other one
pub record IsOfWriter (all : List Event) (last : Own → Option ℕ) (i : ℕ) (k ts : List ℕ) (place at : ℕ) : Type 0 where
  pub before : at < i
  pub txn : ℕ
  pub writer_is : slice_get ts place ≡ Some txn
  pub installs : Installs all last k txn at

-- a place of the transaction holds the index
pub record HasPlace (ts ws : List ℕ) (t at : ℕ) : Type 0 where
  pub place : ℕ
  pub writer_is : slice_get ts place ≡ Some t
  pub holds : slice_index ws place ≡ suc at

-- a committed writer of the key isn't in the line
pub record Lacks (all : List Event) (last : Own → Option ℕ) (k ts : List ℕ) : Type 0 where
  pub txn : ℕ
  pub at : ℕ
  pub installs : Installs all last k txn at
  pub missing : count_by (λ u. u == txn) ts ≡ 0

-- the last writes before the index are found
pub record IsPlaced (all : List Event) (last : Own → Option ℕ) (i : ℕ) (k ts ws : List ℕ) (lacks : Bool) : Type 0 where
  pub count : length ws ≡ length ts
  pub filled : (place at : ℕ) → slice_index ws place ≡ suc at → IsOfWriter all last i k ts place at
  pub once : (p q at : ℕ) → slice_index ws p ≡ suc at → slice_index ws q ≡ suc at → p ≡ q
  pub placed : (t at : ℕ) → Installs all last k t at → at < i → lacks ≡ false → HasPlace ts ws t at
  pub lacking : lacks ≡ true → Lacks all last k ts

-- each place holds an index, and no writer is missing
abbrev pub is_full : List ℕ → Bool → Bool
is_full ws lacks = not lacks && list_all (λ w. not (w == 0)) ws

-- ---- all lines

-- the orders of the lines
abbrev pub orders_in : Placing → List Order
orders_in x = orders_of x.writers.orders.now

-- what the places of the line hold
abbrev pub places_in : LinePlaces → ℕ → List ℕ
places_in x line = line_places (indices_in x.writes) (indices_in x.starts) line

-- whether the line lacks a committed writer
abbrev pub lacks_at : List Bool → ℕ → Bool
lacks_at lacks line = get_or lacks line false

-- the last writes before the index are found in each line
pub record AreLines (all : List Event) (last : Own → Option ℕ) (i : ℕ) (os : List Order) (writes starts : List ℕ) (lacks : List Bool) : Type 0 where
  pub count : length starts ≡ suc (length os)
  pub flags : length lacks ≡ length os
  pub lines : (line : ℕ) (o : Order) → slice_get os line ≡ Some o → IsPlaced all last i o.key o.writers (line_places writes starts line) (lacks_at lacks line)

abbrev pub AreLinesOf : List Event → (Own → Option ℕ) → ℕ → List Order → Placing → Type 0
AreLinesOf all last i os x = AreLines all last i os (indices_in x.lines.writes) (indices_in x.lines.starts) x.lacks.items

abbrev pub has_line : List Order → List ℕ → Bool
has_line os k = list_any (λ o. key_eq o.key k) os

-- the index of the key's line, or none if it has none
abbrev pub IsLineOf : Option ℕ → List Order → List ℕ → Type 0
IsLineOf i os k = MatchOption i (has_line os k ≡ false) (λ j. option_map (λ o. o.key) (slice_get os j) ≡ Some k)

-- a key with a committed writer has no line
pub record LeavesOut (all : List Event) (last : Own → Option ℕ) (os : List Order) : Type 0 where
  pub key : List ℕ
  pub txn : ℕ
  pub at : ℕ
  pub installs : Installs all last key txn at
  pub missing : has_line os key ≡ false

pub record ArePlaced (all : List Event) (last : Own → Option ℕ) (i : ℕ) (ks : List Key) (os : List Order) (x : Placing) : Type 0 where
  pub finds : FindsLines (indices_in x.numbers) ks os (length os)
  pub lines : AreLinesOf all last i os x
  pub left : x.left_out ≡ true → LeavesOut all last os
  pub covered : x.left_out ≡ false → (k : List ℕ) (t at : ℕ) → Installs all last k t at → at < i → has_line os k ≡ true

-- the lines have places
abbrev pub HasLines : LinePlaces → List Order → Type 0
HasLines x os = length (indices_in x.starts) ≡ suc (length os)

-- those lines are right that are full
abbrev pub Judges : List Event → List Order → Placing → Type 0
Judges all os x =
    (line : ℕ) (o : Order) → slice_get os line ≡ Some o
    → lists_exactly (installs all o.key) o.writers all ≡ is_full (places_in x.lines line) (lacks_at x.lacks.items line)

-- ---- what the lines hold in the end

-- the indices of the last writes of the key by the writers of its line
abbrev pub line_writes : (Own → Option ℕ) → Order → List (Option ℕ)
line_writes last o = map (λ t. last (own t o.key)) o.writers

-- the places of the lines hold those indices
pub record AreWrites (last : Own → Option ℕ) (x : LinePlaces) (os : List Order) : Type 0 where
  pub count : HasLines x os
  pub same : (line : ℕ) (o : Order) → slice_get os line ≡ Some o → map held (places_in x line) ≡ line_writes last o

-- the places hold the indices of events that wrote what the lines name
pub record AreInstalled (all : List Event) (x : LinePlaces) (os : List Order) : Type 0 where
  pub count : HasLines x os
  pub same : (line : ℕ) (o : Order) → slice_get os line ≡ Some o
      → map (λ above. written_at all (held above)) (places_in x line) ≡ map (λ t. last_write t o.key all) o.writers
