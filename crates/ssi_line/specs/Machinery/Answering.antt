-- How a dump is answered.
use Rattle.std.specs.Prelude.{◌≡◌, Bool, false}
use Rattle.ssi_store.specs.Meaning.Courses.{Course}
use Rattle.ssi_line.specs.Meaning.Spelling.{Dump, line_text}
use Rattle.ssi_line.specs.Meaning.Steps.{Step, IsStepOf, MayFollow, course_with, is_stop}
use Rattle.ssi_line.specs.Clauses.Counting.{counts}

-- the step is one that a dump makes of a store that stands for these courses, and keeps its history or doesn't
pub record IsDump (keeps : Bool) (is_at : Course → Type 0) (step : Step) : Type 0 where
  pub made : IsStepOf keeps (line_text Dump) step
  pub goes_on : is_stop step ≡ false
  pub idle : counts step ≡ false
  pub follows : (course : Course) → is_at course → MayFollow course step
  pub leaves : (course : Course) → course_with course step ≡ course
