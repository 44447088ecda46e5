-- The dependencies between the transactions of a history, which are the edges of its direct serialization graph
-- (Adya 1999, section 3.1.4), and the cycles of that graph.
use Rattle.std.specs.Prelude.{◌≡◌, ◌≢◌, ℕ, suc, true, List, [], ◌∷◌, Some, Contains}
use Rattle.std.specs.List.{AllByRecursion}
use Rattle.adya_keys.specs.Meaning.Keys.{Key}
use Rattle.adya_values.specs.Meaning.Histories.{Event, History}
use Rattle.adya_values.specs.Meaning.Events.{txn_of, is_committed}
use Rattle.adya_values.specs.Meaning.Orders.{installer}
use Rattle.adya_values.specs.Meaning.Selections.{selected, reads_from, overwritten_by}

-- write dependency, read dependency, anti-dependency
pub data Kind : Type 0 where
  Ww : Kind
  Wr : Kind
  Rw : Kind

pub record Edge : Type 0 where
  pub from : ℕ
  pub kind : Kind
  pub key : Key
  pub to : ℕ

-- in the version order of the key, to comes right after from
abbrev pub DependsByWrite : History → Key → ℕ → ℕ → Type 0
DependsByWrite h k from to = (q : ℕ) × (installer h k q ≡ Some from) × (installer h k (suc q) ≡ Some to)

-- an event of to, which is committed, sees or depends on what from installed
pub record DependsByRead (h : History) (k : Key) (from to : ℕ) : Type 0 where
  pub event : Event
  pub place : ℕ
  pub source : ℕ
  pub occurs : Contains h.events event
  pub reader : txn_of event ≡ to
  pub committed : is_committed h.events to ≡ true
  pub selects : selected h event k ≡ Some place
  pub from_source : reads_from h event k place source ≡ true
  pub installs : installer h k source ≡ Some from

-- an event of from, which is committed, sees what a version of to overwrites
pub record DependsByOverwrite (h : History) (k : Key) (from to : ℕ) : Type 0 where
  pub event : Event
  pub place : ℕ
  pub next : ℕ
  pub occurs : Contains h.events event
  pub reader : txn_of event ≡ from
  pub committed : is_committed h.events from ≡ true
  pub selects : selected h event k ≡ Some place
  pub overwritten : overwritten_by h event k place next ≡ true
  pub installs : installer h k next ≡ Some to

abbrev pub Depends : History → Kind → Key → ℕ → ℕ → Type 0
Depends h Ww k from to = DependsByWrite h k from to
Depends h Wr k from to = DependsByRead h k from to
Depends h Rw k from to = DependsByOverwrite h k from to

-- a dependency between two different transactions
abbrev pub IsEdge : History → Edge → Type 0
IsEdge h e = (e.from ≢ e.to) × Depends h e.kind e.key e.from e.to

-- the edges lead from a to b, one after the other
abbrev pub IsPath : ℕ → List Edge → ℕ → Type 0
IsPath a [] b = a ≡ b
IsPath a (e ∷ es) b = (e.from ≡ a) × IsPath e.to es b

-- one edge or more that lead from a transaction back to itself
abbrev pub IsCycle : History → List Edge → Type 0
IsCycle h [] = ⊥
IsCycle h (e ∷ es) = AllByRecursion (IsEdge h) (e ∷ es) × IsPath e.from (e ∷ es) e.from
