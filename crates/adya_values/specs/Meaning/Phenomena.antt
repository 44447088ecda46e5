-- The phenomena that isolation level PL-3 rules out (Adya 1999, section 3.2): G1 and G2.
use Rattle.std.specs.Prelude.{◌≡◌, ◌≢◌, ◌⊎◌, true, List, Some, Any, Contains}
use Rattle.std.specs.List.{AllByRecursion}
use Rattle.adya_values.specs.Meaning.Histories.{Entry, Event, History}
use Rattle.adya_values.specs.Meaning.Events.{txn_of, observed, last_write, is_committed, is_aborted}
use Rattle.adya_values.specs.Meaning.Edges.{Rw, Edge, IsCycle}

pub record ReadsCommitted (h : History) (e : Event) (o : Entry) : Type 0 where
  pub occurs : Contains h.events e
  pub committed : is_committed h.events (txn_of e) ≡ true
  pub sees : Contains (observed e) o

-- G1a, aborted read: what a committed transaction sees was written by an aborted one
abbrev pub HasG1a : History → Type 0
HasG1a h = (e : Event) × (o : Entry) × ReadsCommitted h e o × (is_aborted h o.version.txn ≡ true)

-- G1b, intermediate read: what a committed transaction sees was written by another one, and not last of that key
abbrev pub HasG1b : History → Type 0
HasG1b h = (e : Event) × (o : Entry) × ReadsCommitted h e o × (o.version.txn ≢ txn_of e) × (last_write o.version.txn o.version.key h.events ≢ Some o)

-- G1c, circular information flow: a cycle of write and read dependencies
abbrev pub HasG1c : History → Type 0
HasG1c h = (es : List Edge) × IsCycle h es × AllByRecursion (λ e. e.kind ≢ Rw) es

-- G2: a cycle with an anti-dependency
abbrev pub HasG2 : History → Type 0
HasG2 h = (es : List Edge) × IsCycle h es × Any (λ e. e.kind ≡ Rw) es

abbrev pub HasG1 : History → Type 0
HasG1 h = HasG1a h ⊎ (HasG1b h ⊎ HasG1c h)
