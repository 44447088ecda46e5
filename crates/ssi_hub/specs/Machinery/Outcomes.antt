-- What was made of one line.
use Rattle.std.specs.Prelude.{◌≡◌, ◌≤◌, Bool, false, [], ◌∷◌, ◌++◌, length}
use Rattle.adya_keys.specs.Meaning.Keys.{Bytes}
use Rattle.adya_line.specs.Meaning.Lines.{IsPlain}
use Rattle.ssi_store.specs.Meaning.Courses.{Course}
use Rattle.ssi_line.specs.Meaning.Steps.{Step, IsStepOf, step_text, is_stop}
use Rattle.ssi_line.specs.Clauses.Counting.{counts}
use Rattle.ssi_line.specs.Clauses.Ends.{WentOn, WentOnLogged}
use Rattle.ssi_line.specs.Clauses.Answers.{kept}
use Rattle.ssi_hub.specs.Clauses.Clipping.{clipped}
use Rattle.ssi_hub.specs.Clauses.Buffers.{Buffers}
use Rattle.ssi_hub.specs.Clauses.Outcomes.{stops_by, lost_by}
use Rattle.ssi_hub.specs.declared.outcome.CarriedLine.{CarriedLine}

-- what came of a line that made this step
pub record Replied (carried : CarriedLine) (step : Step) (old new : Bytes) : Type 0 where
  pub stops : is_stop step ≡ stops_by carried.outcome
  pub counted : counts step ≡ carried.counted
  pub reply : lost_by carried.outcome ≡ false → new ≡ old ++ step_text step

-- of the bytes, of which `old.waiting` is what was kept, the first line was carried out, and `left` is left
pub record Stepped {T : Type 0} (keeps : Bool) (is_at : T → Course → Type 0) (old : Buffers) (bytes : Bytes) (store : T)
    (carried : CarriedLine) (line : Bytes) (step : Step) (left : Bytes) (new : Buffers) (after : T) : Type 0 where
  pub plain : IsPlain line
  pub cut : bytes ≡ line ++ (10 ∷ left)
  pub waits : new.waiting ≡ clipped left
  pub made : IsStepOf keeps line step
  pub first : (front rest : Bytes) → old.waiting ≡ front ++ (10 ∷ rest) → IsPlain front
      → (kept front ≡ kept line) × IsStepOf keeps front step
  pub within : length old.unsent ≤ 65536
  pub replied : Replied carried step old.unsent new.unsent
  pub went : WentOn is_at store (step ∷ []) after
  pub logged : WentOnLogged is_at store step after

-- of the bytes of which the connection keeps what waits, a line was carried out
abbrev pub StepsOut : {T : Type 0} → (keeps : Bool) → (T → Course → Type 0) → Buffers → T → CarriedLine → Buffers → T → Type 0
StepsOut keeps is_at old store carried new after = (bytes : Bytes) → old.waiting ≡ clipped bytes
    → (line : Bytes) × (step : Step) × (left : Bytes) × Stepped keeps is_at old bytes store carried line step left new after
