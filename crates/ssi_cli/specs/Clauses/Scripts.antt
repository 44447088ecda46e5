-- What a run over a script has done when it ends, and what is written of it.
use Rattle.std.specs.Prelude.{◌≡◌, ◌≢◌, Bool, true, false, List, Option, Result, Ok, Err}
use Rattle.adya_keys.specs.Meaning.Keys.{Bytes}
use Rattle.adya_values.specs.Meaning.Histories.{Txns, History}
use Rattle.adya_values.specs.Clauses.Acceptance.{IsAccepted}
use Rattle.devices.specs.declared.watched.Watched.{Watched}
use Rattle.devices.specs.Mirror.{has_failed}
use Rattle.devices.specs.Clauses.Writing.{Grew}
use Rattle.adya_text.specs.Meaning.Texts.{history_text, serial_text}
use Rattle.adya_audit.specs.Clauses.TextVerdicts.{AreAccepted}
use Rattle.ssi_store.specs.Meaning.Courses.{Course, New}
use Rattle.ssi_store.specs.Clauses.Finished.{finished}
use Rattle.ssi_store.specs.Meaning.Faces.{Records}
use Rattle.ssi_line.specs.Meaning.Steps.{Step, AllMayFollow, course_after}
use Rattle.ssi_line.specs.Clauses.Ends.{Took, EndsAs}
use Rattle.ssi_line.specs.declared.end.End.{End}
use Rattle.ssi_line.specs.declared.end.End.TheVariants.{Eof, ReadFault, WriteFault}
use Rattle.ssi_cli.specs.declared.script_fault.ScriptFault.{ScriptFault}
use Rattle.ssi_cli.specs.declared.script_fault.ScriptFault.TheVariants as fault

-- the lines of an input made these steps of a new store, each of which may follow those before it, and the run ended so:
-- what is left of the input, and what was written
pub record Ran {D : Type 0} (contents : D → Option Bytes) (input left : Option Bytes) (old new : Watched D) :
    Type 0 where
  pub end : End
  pub lines : List Bytes
  pub steps : List Step
  -- the bytes after the last line
  pub after : Bytes
  pub took : Took input lines steps after left
  pub follow : AllMayFollow (New 1) steps
  pub ends : EndsAs end contents steps after left old new

-- the devices show how the run ended: whether reading had failed before it and has failed now, and whether writing has
pub record Shown (end : End) (failed_before failed unwritten : Bool) : Type 0 where
  pub read_fault : end ≡ ReadFault → failed ≡ true
  pub write_fault : end ≡ WriteFault → unwritten ≡ true
  pub eof : end ≡ Eof → failed ≡ false
  pub unfailed : end ≢ ReadFault → failed ≡ true → failed_before ≡ true

-- the course of the store at the end of the run
abbrev pub course_of : {D : Type 0} → {contents : D → Option Bytes} → {input left : Option Bytes}
    → {old new : Watched D} → Ran contents input left old new → Course
course_of ran = course_after (New 1) ran.steps

-- the history of the course is written, and a certificate that it is accepted with
pub record Certified {H C : Type 0} (course : Course) (in_history : H → Option Bytes) (old_history new_history : Watched H)
    (in_certificate : C → Option Bytes) (old_certificate new_certificate : Watched C) : Type 0 where
  pub history : History
  pub certificate : Txns
  pub is : history ≡ finished course
  pub records : Records history course
  pub accepted : IsAccepted history certificate
  pub texts : AreAccepted (history_text history) (serial_text certificate)
  pub history_written : Grew in_history old_history new_history (history_text history)
  pub certificate_written : Grew in_certificate old_certificate new_certificate (serial_text certificate)

-- the history of the course is written
pub record HistoryWritten {H : Type 0} (course : Course) (in_history : H → Option Bytes) (old new : Watched H) : Type 0 where
  pub history : History
  pub is : history ≡ finished course
  pub records : Records history course
  pub written : Grew in_history old new (history_text history)

-- whether both texts of a run were written
abbrev pub Written : Type 0
Written = Result (Unit {0}) ScriptFault

-- what is left of the two texts of the course: both, or what the fault says
abbrev pub LeavesTexts : {T H C : Type 0} → Result T ScriptFault → Course → (H → Option Bytes) → (old_history new_history : Watched H)
    → (C → Option Bytes) → (old_certificate new_certificate : Watched C) → Type 0
LeavesTexts (Ok _) course in_history old_history new_history in_certificate old_certificate new_certificate =
    Certified course in_history old_history new_history in_certificate old_certificate new_certificate
LeavesTexts (Err fault.History) course in_history old_history new_history in_certificate old_certificate new_certificate =
    (has_failed new_history ≡ true) × (new_certificate ≡ old_certificate)
LeavesTexts (Err fault.Certificate) course in_history old_history new_history in_certificate old_certificate new_certificate =
    HistoryWritten course in_history old_history new_history × (has_failed new_certificate ≡ true)
LeavesTexts (Err fault.Memory) course in_history old_history new_history in_certificate old_certificate new_certificate =
    (new_history ≡ old_history) × (new_certificate ≡ old_certificate)
