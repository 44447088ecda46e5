-- Tables of connections, read by token.
use Rattle.std.specs.Prelude.{◌≡◌, ◌≢◌, ℕ, Bool, true, false, List, nat_eq, Option, Some, None}
use Rattle.std.specs.Map.{lookup}
use Rattle.adya_keys.specs.Meaning.Keys.{Bytes}
use Rattle.ssi_hub.specs.Clauses.Buffers.{Buffers}
use Rattle.ssi_store.specs.Meaning.Courses.{Course}
use Rattle.ssi_line.specs.Meaning.Steps.{Step}
use Rattle.ssi_hub.specs.Clauses.Clipping.{clipped}
use Rattle.ssi_hub.specs.Clauses.Runs.{CarriedOut, IsEnough, left_by}
use Rattle.ssi_hub.specs.Clauses.Outcomes.{lost_by}
use Rattle.ssi_hub.specs.Clauses.Stepping.{is_ready, may_step}
use Rattle.ssi_hub.specs.Machinery.Outcomes.{StepsOut}
use Rattle.ssi_hub.specs.declared.connections.Connections.{Connections}
use Rattle.ssi_hub.specs.declared.outcome.CarriedLine.{CarriedLine}

-- what the table has of the connection with this token
abbrev pub buffers_in : Connections → ℕ → Option Buffers
buffers_in table t = lookup (nat_eq t) table.by_token.entries

-- the connection with this token has these buffers now, or is missing, and the others have theirs
pub record Changes (old new : ℕ → Option Buffers) (t : ℕ) (now : Option Buffers) : Type 0 where
  pub own : new t ≡ now
  pub others : (u : ℕ) → u ≢ t → new u ≡ old u

-- nothing has changed
abbrev pub AreSame : (ℕ → Option Buffers) → (ℕ → Option Buffers) → Type 0
AreSame old new = (t : ℕ) → new t ≡ old t

-- of the bytes of which the connection keeps what waits, lines were carried out
abbrev pub CarriesOut : {T : Type 0} → (keeps : Bool) → (T → Course → Type 0) → Buffers → T → Bool → Bool → ℕ → Buffers → T → Type 0
CarriesOut keeps is_at old store stops lost most new after = (bytes : Bytes) → old.waiting ≡ clipped bytes
    → (lines : List Bytes) × (steps : List Step) × (left : Bytes)
    × CarriedOut keeps is_at old bytes store stops lost lines steps left new after × IsEnough stops lost most lines new

-- lines of the connection with this token were carried out
pub record RanAt {T : Type 0} (keeps : Bool) (is_at : T → Course → Type 0) (old : ℕ → Option Buffers) (t : ℕ) (store : T)
    (stops lost : Bool) (most : ℕ) (new : ℕ → Option Buffers) (after : T) : Type 0 where
  pub before : Buffers
  pub now : Buffers
  pub has : old t ≡ Some before
  pub changes : Changes old new t (left_by lost now)
  pub carried : CarriesOut keeps is_at before store stops lost most now after

-- it isn't open, and nothing was done
pub record RanNothing {T : Type 0} (old : ℕ → Option Buffers) (t : ℕ) (store : T) (new : ℕ → Option Buffers) (after : T)
    : Type 0 where
  pub missing : old t ≡ None
  pub same : AreSame old new
  pub same_store : after ≡ store

-- a line of the connection with this token was carried out
pub record SteppedAt {T : Type 0} (keeps : Bool) (is_at : T → Course → Type 0) (old : ℕ → Option Buffers) (t : ℕ) (store : T)
    (carried : CarriedLine) (new : ℕ → Option Buffers) (after : T) : Type 0 where
  pub before : Buffers
  pub now : Buffers
  pub has : old t ≡ Some before
  pub ready : is_ready before ≡ true
  pub changes : Changes old new t (left_by (lost_by carried.outcome) now)
  pub steps : StepsOut keeps is_at before store carried now after

-- no line of it may be carried out, and nothing was done
pub record NotStepped {T : Type 0} (old : ℕ → Option Buffers) (t : ℕ) (store : T) (new : ℕ → Option Buffers) (after : T)
    : Type 0 where
  pub idle : may_step false (old t) ≡ false
  pub same : AreSame old new
  pub same_store : after ≡ store
