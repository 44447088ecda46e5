-- What is made of a line, what is written for it, how the store's course goes on, and which step ends a run.
use Rattle.std.specs.Prelude.{◌≡◌, ◌<◌, ◌≤◌, ◌⊎◌, Bool, true, false, List, [], ◌∷◌, ◌++◌, codes, length, flat_map, All}
use Rattle.adya_keys.specs.Meaning.Keys.{Bytes}
use Rattle.adya_values.specs.Meaning.Histories.{Txns, History}
use Rattle.adya_values.specs.Clauses.Acceptance.{IsAccepted}
use Rattle.adya_text.specs.Meaning.Texts.{history_text, serial_text}
use Rattle.ssi_conflict.specs.Computing.Steps.{smallest_ordered_pivot}
use Rattle.ssi_store.specs.Meaning.Courses.{Command, Answer, Refused, Memory, Course, Then}
use Rattle.ssi_store.specs.Meaning.Replies.{IsAnswer}
use Rattle.ssi_store.specs.Meaning.Recording.{dumped}
use Rattle.ssi_store.specs.Meaning.Faces.{RecordsSoFar}
use Rattle.ssi_line.specs.Meaning.Spelling.{Do, Dump, Stop, line_text, IsLineOf, IsNoLine}
use Rattle.ssi_line.specs.Meaning.Replies.{answer_line}

pub data Step : Type 0 where
  Given : (command : Command) (answer : Answer) → Step
  -- the history so far and a certificate were given
  Dumped : (history : History) (serial : Txns) → Step
  -- memory ran out before that
  NotDumped : Step
  Stopped : Step
  -- the line asks for nothing
  NotRead : Step
  TooLong : Step

-- what holds of a store that keeps its history, and of no other
abbrev pub IfKept : Bool → Type 0 → Type 0
IfKept true P = P
IfKept false P = ⊥

-- the line asks for nothing: it is no line of the protocol, and neither is that of a dump if the store doesn't keep its history
abbrev pub AsksForNothing : Bool → Bytes → Type 0
AsksForNothing true line = IsNoLine line
AsksForNothing false line = IsNoLine line ⊎ (line ≡ line_text Dump)

-- the line makes this step of a store that keeps its history or doesn't; the history of a dump is accepted with its certificate
abbrev pub IsStepOf : (keeps : Bool) → Bytes → Step → Type 0
IsStepOf keeps line (Given c a) = IsLineOf (Do c) line
IsStepOf keeps line (Dumped h ts) = IfKept keeps ((line ≡ line_text Dump) × IsAccepted h ts)
IsStepOf keeps line NotDumped = IfKept keeps (line ≡ line_text Dump)
IsStepOf keeps line Stopped = line ≡ line_text Stop
IsStepOf keeps line NotRead = (length line ≤ 4096) × AsksForNothing keeps line
IsStepOf keeps line TooLong = 4096 < length line

abbrev pub AreStepsOf : (keeps : Bool) → List Bytes → List Step → Type 0
AreStepsOf keeps [] [] = Unit {0}
AreStepsOf keeps (l ∷ ls) (s ∷ ss) = IsStepOf keeps l s × AreStepsOf keeps ls ss
AreStepsOf keeps _ _ = ⊥

-- the same of a store that keeps it
abbrev pub IsStep : Bytes → Step → Type 0
IsStep line step = IsStepOf true line step

abbrev pub AreSteps : List Bytes → List Step → Type 0
AreSteps lines steps = AreStepsOf true lines steps

abbrev pub step_text : Step → Bytes
step_text (Given c a) = answer_line a
step_text (Dumped h ts) = history_text h ++ serial_text ts
step_text NotDumped = answer_line (Refused Memory)
step_text Stopped = codes "stopped\n"
step_text NotRead = codes "? syntax\n"
step_text TooLong = codes "? long\n"

abbrev pub steps_text : List Step → Bytes
steps_text steps = flat_map step_text steps

-- only a command goes into the course
abbrev pub course_with : Course → Step → Course
course_with course (Given c a) = Then course c a
course_with course _ = course

abbrev pub course_after : Course → List Step → Course
course_after course [] = course
course_after course (s ∷ ss) = course_after (course_with course s) ss

-- the command may have this answer; a dump gives the history of the course so far, which records it
abbrev pub MayFollow : Course → Step → Type 0
MayFollow course (Given c a) = IsAnswer smallest_ordered_pivot course c a
MayFollow course (Dumped h ts) = (h ≡ dumped course) × RecordsSoFar h course
MayFollow course _ = Unit {0}

abbrev pub AllMayFollow : Course → List Step → Type 0
AllMayFollow course [] = Unit {0}
AllMayFollow course (s ∷ ss) = MayFollow course s × AllMayFollow (course_with course s) ss

abbrev pub is_stop : Step → Bool
is_stop Stopped = true
is_stop _ = false

abbrev pub AllGoOn : List Step → Type 0
AllGoOn steps = All (λ s. is_stop s ≡ false) steps

pub record EndsWith (steps : List Step) (last : Step) : Type 0 where
  pub before : List Step
  pub go_on : AllGoOn before
  pub is : steps ≡ before ++ (last ∷ [])
