-- The lives of a server: it starts with the lines of its log, serves, and ends at any moment, which leaves the lines with
-- which the next life starts.
use Rattle.std.specs.Prelude.{◌≡◌, List, [], ◌∷◌, ◌++◌}
use Rattle.std.specs.List.{AllByRecursion}
use Rattle.adya_keys.specs.Meaning.Keys.{Bytes}
use Rattle.ssi_store.specs.Meaning.Courses.{Course, New}
use Rattle.ssi_line.specs.Meaning.Steps.{Step, MayFollow}
use Rattle.ssi_hub.specs.Clauses.Calls.{Call, all_steps}
use Rattle.ssi_durable.specs.Meaning.Lines.{IsBetween}
use Rattle.ssi_durable.specs.Meaning.Logs.{logged, told, released, HaveLed}
use Rattle.ssi_durable.specs.Meaning.Replays.{Replays}

-- one life: the lines at its start, the calls of its hub, and the lines that are left
pub record IsLife (lines : List Bytes) (calls : List Call) (left : List Bytes) : Type 0 where
  pub start : Course
  pub replayed : Replays (New 1) lines start
  pub end : Course
  pub led : HaveLed start calls end
  pub between : IsBetween (lines ++ released calls) left (lines ++ logged calls)

-- lives one after the other, the first one first
abbrev pub AreLives : List Bytes → List (List Call) → List Bytes → Type 0
AreLives lines [] left = left ≡ lines
AreLives lines (calls ∷ lives) left = (next : List Bytes) × IsLife lines calls next × AreLives next lives left

-- the step may follow a front of the lines
pub record IsExplained (lines : List Bytes) (step : Step) : Type 0 where
  pub front : List Bytes
  pub rest : List Bytes
  pub parts : lines ≡ front ++ rest
  pub course : Course
  pub replayed : Replays (New 1) front course
  pub follows : MayFollow course step

-- of the calls of a life, what was written rests on lines that are left, and these explain it
pub record IsKept (left : List Bytes) (calls : List Call) : Type 0 where
  pub before : List Bytes
  pub after : List Bytes
  pub lines : left ≡ before ++ (released calls ++ after)
  pub steps : AllByRecursion (IsExplained left) (all_steps (told calls))
