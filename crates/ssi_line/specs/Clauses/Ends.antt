-- What a run over an input has done when it ends.
use Rattle.std.specs.Prelude.{◌≡◌, ◌<◌, List, ◌++◌, length, All, Option}
use Rattle.std.specs.Io.KnownBytes.{Consumes, Appends, IsAtEnd}
use Rattle.devices.specs.declared.watched.Watched.{Watched}
use Rattle.devices.specs.Mirror.{watched_contents}
use Rattle.devices.specs.Clauses.Writing.{Grew}
use Rattle.adya_keys.specs.Meaning.Keys.{Bytes}
use Rattle.adya_line.specs.Meaning.Lines.{IsPlain}
use Rattle.adya_text.specs.Meaning.Texts.{with_ends}
use Rattle.ssi_store.specs.Meaning.Courses.{Course}
use Rattle.ssi_line.specs.Meaning.Steps.{Step, Stopped, AreSteps, MayFollow, AllMayFollow, AllGoOn, course_after, step_text, steps_text, EndsWith}
use Rattle.ssi_line.specs.Clauses.Counting.{logged_course}
use Rattle.ssi_line.specs.declared.end.End.{End}
use Rattle.ssi_line.specs.declared.end.End.TheVariants.{Eof, Stop, ReadFault, WriteFault}

-- whatever course the store stood for, it now stands for that course with these steps, and each step may follow the ones
-- before it
abbrev pub WentOn : {T : Type 0} → (T → Course → Type 0) → T → List Step → T → Type 0
WentOn is_at old steps new =
    (course : Course) → is_at old course → AllMayFollow course steps × is_at new (course_after course steps)

-- whatever course the old store stood for, the step may follow it; the new store stands for that course with the step if it
-- counts, and for that course itself if it doesn't
abbrev pub WentOnLogged : {T : Type 0} → (T → Course → Type 0) → T → Step → T → Type 0
WentOnLogged is_at old step new =
    (course : Course) → is_at old course → MayFollow course step × is_at new (logged_course course step)

-- the input began with these lines, each of which made a step, and then these bytes; the rest is left
pub record Took (old : Option Bytes) (lines : List Bytes) (steps : List Step) (after : Bytes)
    (left : Option Bytes) : Type 0 where
  pub plain : All IsPlain lines
  pub made : AreSteps lines steps
  pub consumed : Consumes old left (with_ends lines ++ after)

-- no line ended the run: exactly this was written, and what follows the last line feed is no line
pub record EndsOpen {D : Type 0} (contents : D → Option Bytes) (steps : List Step) (after : Bytes)
    (old new : Watched D) : Type 0 where
  pub go_on : AllGoOn steps
  pub unfinished : IsPlain after
  pub written : Grew contents old new (steps_text steps)

-- the text of the last step couldn't be written: before it exactly this was, and of it a front, which may be empty, and not
-- the rest, which isn't
pub record EndsBroken {D : Type 0} (contents : D → Option Bytes) (steps : List Step) (old new : Watched D)
    : Type 0 where
  pub last : Step
  pub ends : EndsWith steps last
  pub front : Bytes
  pub rest : Bytes
  pub parts : step_text last ≡ front ++ rest
  pub more : 0 < length rest
  pub written : Appends (watched_contents contents old) (watched_contents contents new) (steps_text ends.before ++ front)

-- what each end says of the steps, of the bytes after the last line feed, of what is left, and of what was written; after
-- a write fault the last step was carried out
abbrev pub EndsAs : {D : Type 0} → End → (D → Option Bytes) → List Step → (after : Bytes)
    → (left : Option Bytes) → (old new : Watched D) → Type 0
EndsAs Eof contents steps after left old new = EndsOpen contents steps after old new × IsAtEnd left
EndsAs ReadFault contents steps after left old new = EndsOpen contents steps after old new
EndsAs Stop contents steps after left old new = EndsWith steps Stopped × Grew contents old new (steps_text steps)
EndsAs WriteFault contents steps after left old new = EndsBroken contents steps old new
