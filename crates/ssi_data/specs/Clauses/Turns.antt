-- What is done with one connection.
use Rattle.std.specs.Prelude.{◌≡◌, ◌<◌, ◌⊎◌, ℕ, Bool, List, [], ◌∷◌, ◌++◌, length, Option, Result}
use Rattle.std.specs.List.{AllByRecursion}
use Rattle.adya_keys.specs.Meaning.Keys.{Bytes}
use Rattle.ssi_hub.specs.Clauses.Calls.{Call, Closed, lines_of}
use Rattle.ssi_cli.specs.declared.closing.Closing.{Closing}
use Rattle.ssi_cli.specs.Clauses.Leaving.{HasNoted}
use Rattle.ssi_cli.specs.Clauses.Turns.{Exchanged, HasWaiting, IsLeft, IsRunOf, with_end}
use Rattle.ssi_data.specs.declared.tables.Tables.{Tables}
use Rattle.ssi_data.specs.Clauses.Timing.{IsTimed}

-- The connection was closed. So many bytes more were read of its stream, and the server wasn't given them
pub record IsDropped {S : Type 0} (remaining contents : S → Option Bytes) (t : ℕ) (old new : S) (made : List Call)
    : Type 0 where
  pub closed : made ≡ Closed t ∷ []
  pub dropped : Bytes
  pub some : 0 < length dropped
  pub exchanged : Exchanged remaining contents t old new [] dropped

-- lines of the connection were carried out, and the tables have noted them. It may have been closed after them: for what it is
-- to get, or because the tables had no memory for a line that waits
pub record HasCarriedOut (dumps : Bool) (t : ℕ) (was now : Tables) (calls made : List Call) : Type 0 where
  pub runs : List Call
  pub are : AllByRecursion (IsRunOf t) runs
  pub noted : HasNoted was.users now.users made
  pub clock : now.second ≡ was.second
  pub timed : IsTimed was.second was.times now.times made
  pub ends : (made ≡ runs) ⊎ ((made ≡ Closed t ∷ runs) × (HasWaiting dumps t (runs ++ calls) ⊎ (0 < length (lines_of t runs))))

-- replies were written to the connection, and it was closed for the reason, or wasn't
pub record HasReplied {S A : Type 0} (dumps : Bool) (remaining contents : S → Option Bytes) (t : ℕ) (old new : S) (result : Result A Closing)
    (calls made : List Call) : Type 0 where
  pub writes : List Call
  pub is : made ≡ with_end result t writes
  pub exchanged : Exchanged remaining contents t old new writes []
  pub left : IsLeft dumps t writes calls [] result
