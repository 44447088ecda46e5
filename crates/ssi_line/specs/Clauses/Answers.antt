-- What is done with one line.
use Rattle.std.specs.Prelude.{◌≡◌, Bool, nat_le, length, Option, Some, None, Result, Ok, Err, MatchResult, if◌then◌else◌}
use Rattle.devices.specs.declared.watched.Watched.{Watched}
use Rattle.devices.specs.Clauses.Writing.{Grew, Broke}
use Rattle.adya_keys.specs.Meaning.Keys.{Bytes}
use Rattle.ssi_line.specs.Meaning.Steps.{Step, IsStep, step_text, is_stop}
use Rattle.ssi_line.specs.Clauses.Counting.{counts}
use Rattle.ssi_line.specs.declared.carried.Carried.{Carried}

-- what is kept of a line: all of it, if it has at most 4096 bytes
abbrev pub kept : Bytes → Option Bytes
kept line = if nat_le (length line) 4096 then Some line else None

-- what was written for the step, and whether it ended the run
abbrev pub Told : {D E : Type 0} → (D → Option Bytes) → Result Bool E → Step → Watched D → Watched D → Type 0
Told contents (Ok stops) step old new = (is_stop step ≡ stops) × Grew contents old new (step_text step)
Told contents (Err e) step old new = Broke contents old new (step_text step)

-- the step that the line made, and what was written for it
pub record Answered {D E : Type 0} (contents : D → Option Bytes) (line : Bytes) (step : Step) (result : Result Bool E)
    (old new : Watched D) : Type 0 where
  pub made : IsStep line step
  pub told : Told contents result step old new

-- the call wrote exactly these bytes, or a front of them and then it failed
abbrev pub Said : {D T E : Type 0} → (D → Option Bytes) → Watched D → Watched D → Bytes → Result T E → Type 0
Said contents old new bytes result =
    MatchResult result (λ _. Grew contents old new bytes) (λ _. Broke contents old new bytes)

-- what came of a line that made this step: whether it ends the run, whether it counts, and what was written for it
pub record IsCarried {D : Type 0} (contents : D → Option Bytes) (step : Step) (carried : Carried) (old new : Watched D)
    : Type 0 where
  pub stops : is_stop step ≡ carried.stops
  pub counted : counts step ≡ carried.counted
  pub said : Said contents old new (step_text step) carried.written
