-- To which course lines lead.
use Rattle.std.specs.Prelude.{◌≡◌, Bool, true, false, List, [], ◌∷◌}
use Rattle.adya_keys.specs.Meaning.Keys.{Bytes}
use Rattle.ssi_conflict.specs.Computing.Steps.{smallest_ordered_pivot}
use Rattle.ssi_store.specs.Meaning.Courses.{Command, Answer, Course, Then}
use Rattle.ssi_store.specs.Meaning.Replies.{reply}
use Rattle.ssi_line.specs.Meaning.Spelling.{Do, IsLineOf}
use Rattle.ssi_line.specs.Clauses.Counting.{is_refusal}
use Rattle.ssi_durable.specs.Meaning.Lines.{is_comment}

-- what a store replies to the command after this course
abbrev pub answer_after : Course → Command → Answer
answer_after course command = reply smallest_ordered_pivot course command

-- the line is that of a command, which isn't refused after the course, and `next` is the course with it
pub record IsCarriedOut (course : Course) (line : Bytes) (next : Course) : Type 0 where
  pub command : Command
  pub is_line : IsLineOf (Do command) line
  pub carried : is_refusal (answer_after course command) ≡ false
  pub is_next : next ≡ Then course command (answer_after course command)

abbrev pub LeadsIf : Bool → Course → Bytes → Course → Type 0
LeadsIf true course line next = next ≡ course
LeadsIf false course line next = IsCarriedOut course line next

-- the line leads from one course to the next: a comment to the same
abbrev pub Leads : Course → Bytes → Course → Type 0
Leads course line next = LeadsIf (is_comment line) course line next

-- so do lines, one after the other
abbrev pub Replays : Course → List Bytes → Course → Type 0
Replays course [] end = end ≡ course
Replays course (line ∷ lines) end = (next : Course) × Leads course line next × Replays next lines end
