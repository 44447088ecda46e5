-- What carrying out one line of a connection does.
use Rattle.std.specs.Prelude.{◌≡◌, Bool, false, not, ◌&&◌, nat_le, [], ◌∷◌, ◌++◌, Option, Some, None, length}
use Rattle.adya_keys.specs.Meaning.Keys.{Bytes}
use Rattle.adya_line.specs.Meaning.Lines.{IsPlain}
use Rattle.ssi_store.specs.Meaning.Courses.{Course}
use Rattle.ssi_line.specs.Meaning.Steps.{Step, IsStepOf, is_stop}
use Rattle.ssi_line.specs.Clauses.Counting.{counts}
use Rattle.ssi_line.specs.Clauses.Ends.{WentOn, WentOnLogged}
use Rattle.ssi_line.specs.Clauses.Answers.{kept}
use Rattle.ssi_hub.specs.Clauses.Clipping.{has_line}
use Rattle.ssi_hub.specs.Clauses.Buffers.{Buffers}
use Rattle.ssi_hub.specs.Clauses.Outcomes.{stops_by}
use Rattle.ssi_hub.specs.declared.outcome.CarriedLine.{CarriedLine}

-- whether a line of a connection that has these buffers may be carried out: a whole line waits, and at most 65536 bytes are
-- unsent
abbrev pub is_ready : Buffers → Bool
is_ready b = has_line b.waiting && nat_le (length b.unsent) 65536

-- the same of a connection that may be closed, of a hub that may be stopped
abbrev pub may_step : Bool → Option Buffers → Bool
may_step stopped None = false
may_step stopped (Some b) = not stopped && is_ready b

-- the first line that waited of a connection that had these buffers was carried out on the store: it made this step. What was
-- kept of it makes the same step. The result says whether it stopped the run and whether it counts
pub record IsLineStep {T : Type 0} (keeps : Bool) (is_at : T → Course → Type 0) (had : Option Buffers) (store : T) (carried : CarriedLine)
    (line : Bytes) (step : Step) (after : T) : Type 0 where
  pub made : IsStepOf keeps line step
  pub first : (b : Buffers) (front rest : Bytes) → had ≡ Some b → b.waiting ≡ front ++ (10 ∷ rest) → IsPlain front
      → (kept front ≡ kept line) × IsStepOf keeps front step
  pub stops : is_stop step ≡ stops_by carried.outcome
  pub counted : counts step ≡ carried.counted
  pub went : WentOn is_at store (step ∷ []) after
  pub logged : WentOnLogged is_at store step after
