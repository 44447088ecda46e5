-- How a connection ends when the run was stopped.
use Rattle.std.specs.Prelude.{true, ◌≡◌, ℕ, List, [], ◌∷◌, ◌++◌, Option}
use Rattle.adya_keys.specs.Meaning.Keys.{Bytes}
use Rattle.ssi_hub.specs.Clauses.Calls.{Call, Closed}
use Rattle.ssi_hub.specs.Clauses.Serving.{IsServed}
use Rattle.ssi_cli.specs.declared.closing.Closing.{Closing}
use Rattle.ssi_cli.specs.declared.closing.Closing.TheVariants.{Ended, Broken, Memory, Stopped}
use Rattle.ssi_cli.specs.Clauses.Turns.{Exchanged, HasUnsent}

-- what the calls say of its replies, if it ends so
abbrev pub IsPartedFor : ℕ → List Call → Closing → Type 0
IsPartedFor t calls Ended = (left : Bytes) × IsServed true t calls left []
IsPartedFor t calls Broken = HasUnsent true t calls
IsPartedFor t calls Stopped = HasUnsent true t calls
IsPartedFor t calls Memory = ⊥

-- replies were written to the connection, nothing was read of it, and then it was closed
pub record HasParted {S : Type 0} (remaining contents : S → Option Bytes) (t : ℕ) (old new : S) (why : Closing)
    (calls made : List Call) : Type 0 where
  pub writes : List Call
  pub is : made ≡ Closed t ∷ writes
  pub exchanged : Exchanged remaining contents t old new writes []
  pub for : IsPartedFor t (writes ++ calls) why
