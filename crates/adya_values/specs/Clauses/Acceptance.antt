-- When a history passes its check, and when a certificate of it is accepted.
use Rattle.std.specs.Prelude.{◌≡◌, ℕ, ◌==◌, ◌<◌, cond, count_by}
use Rattle.adya_values.specs.Meaning.Histories.{Txns, History}
use Rattle.adya_values.specs.Meaning.Events.{is_committed}
use Rattle.adya_values.specs.Meaning.Orders.{place}
use Rattle.adya_values.specs.Meaning.Edges.{Edge, IsEdge}
use Rattle.adya_values.specs.Clauses.Rules.{IsWellFormed}
use Rattle.adya_values.specs.Meaning.Phenomena.{HasG1a, HasG1b}

-- the history is well-formed and has no aborted and no intermediate reads
pub record IsChecked (h : History) : Type 0 where
  pub well_formed : IsWellFormed h
  pub no_aborted_read : HasG1a h → ⊥
  pub no_intermediate_read : HasG1b h → ⊥

-- a comes before b in the list
abbrev pub IsBefore : Txns → ℕ → ℕ → Type 0
IsBefore ts a b = place ts a < place ts b

-- the list has each committed transaction once, and no other
abbrev pub ListsTheCommitted : History → Txns → Type 0
ListsTheCommitted h ts = (t : ℕ) → count_by (λ u. u == t) ts ≡ cond (is_committed h.events t) 1 0

pub record IsAccepted (h : History) (ts : Txns) : Type 0 where
  pub checked : IsChecked h
  pub committed_once : ListsTheCommitted h ts
  -- each edge goes forward
  pub forward : (e : Edge) → IsEdge h e → IsBefore ts e.from e.to
