-- What a recovery returns, and why it may fail.
use Rattle.std.specs.Prelude.{◌≡◌, ◌+◌, ℕ, suc, IsTrue, false, List, ◌∷◌, ◌++◌, length}
use Rattle.sqlite_disk.specs.declared.Disk.{Ghosts}
use Rattle.adya_keys.specs.Meaning.Keys.{Bytes}
use Rattle.adya_text.specs.Meaning.Texts.{with_ends}
use Rattle.ssi_conflict.specs.Computing.Steps.{smallest_ordered_pivot}
use Rattle.ssi_store.specs.Meaning.Courses.{Command, Refused, Memory, Course, New}
use Rattle.ssi_store.specs.Meaning.Replies.{IsAnswer}
use Rattle.ssi_line.specs.Meaning.Spelling.{Do, IsLineOf}
use Rattle.ssi_log.specs.declared.log.Log.{Log}
use Rattle.ssi_log.specs.Clauses.Faults.{ReadFails, ResumeFails}
use Rattle.ssi_log.specs.Meaning.Texts.{text_of}
use Rattle.ssi_durable.specs.declared.fault.LineFault.{LineFault}
use Rattle.ssi_durable.specs.declared.fault.LineFault.TheVariants as line_fault
use Rattle.ssi_durable.specs.declared.fault.ReplayFault.{ReplayFault}
use Rattle.ssi_durable.specs.declared.fault.ReplayFault.TheVariants as replay_fault
use Rattle.ssi_durable.specs.declared.fault.RecoveryFault.{RecoveryFault}
use Rattle.ssi_durable.specs.declared.fault.RecoveryFault.TheVariants as fault
use Rattle.ssi_durable.specs.Meaning.Lines.{whole_lines, HasHeader, is_comment}
use Rattle.ssi_durable.specs.Meaning.Replays.{Leads, Replays}

-- the line leads from the course to no other: it is neither a comment nor that of a command, or the command is refused
abbrev pub IsDamaged : Course → Bytes → Type 0
IsDamaged course line = (next : Course) → Leads course line next → ⊥

-- the line is that of a command to which a store may answer after the course that memory ran out
pub record MayRunOut (course : Course) (line : Bytes) : Type 0 where
  pub command : Command
  pub is_line : IsLineOf (Do command) line
  pub no_comment : is_comment line ≡ false
  pub memory : IsAnswer smallest_ordered_pivot course command (Refused Memory)

-- why a line couldn't be carried out after the course
abbrev pub LineFails : Course → Bytes → LineFault → Type 0
LineFails course line line_fault.Damaged = IsDamaged course line
LineFails course line line_fault.Memory = MayRunOut course line

-- of these lines the one with this number, counted from 1, has the property after the course to which those before it lead
pub record StopsAt (lines : List Bytes) (number : ℕ) (Has : Course → Bytes → Type 0) : Type 0 where
  pub before : List Bytes
  pub line : Bytes
  pub after : List Bytes
  pub cut : lines ≡ before ++ (line ∷ after)
  pub place : number ≡ suc (length before)
  pub course : Course
  pub replayed : Replays (New 1) before course
  pub has : Has course line

-- why the lines of segment n couldn't be carried out
abbrev pub ReplayFails : ℕ → List Bytes → ReplayFault → Type 0
ReplayFails n lines replay_fault.Header = HasHeader n lines → ⊥
ReplayFails n lines (replay_fault.Damaged number) = StopsAt lines number IsDamaged
ReplayFails n lines (replay_fault.Memory number) = StopsAt lines number MayRunOut

-- the store stands for the course to which the lines of segment n lead from the beginning
pub record IsReplayed {T : Type 0} (is_at : T → Course → Type 0) (n : ℕ) (lines : List Bytes) (store : T) : Type 0 where
  pub has_header : HasHeader n lines
  pub course : Course
  pub replayed : Replays (New 1) lines course
  pub at : is_at store course

-- whatever a crash leaves of the file has the whole lines of this text, and no other
abbrev pub KeepsLines : (List ℕ → Type 0) → Bytes → Type 0
KeepsLines may_leave text = (file : List ℕ) → may_leave file → whole_lines (text_of file) ≡ whole_lines text

module _ {D : Type 0} {disk : Ghosts D} (old new : Log D disk) where
  -- the text is that of the old file, if no wrong answer to a read was taken as true
  abbrev pub WasRead : Bytes → Type 0
  WasRead text = IsTrue (disk.is_clean new.disk) → text_of (disk.seen old.disk) ≡ text

  -- the file has the bytes that it had, and a crash leaves nothing that it couldn't leave before
  abbrev pub IsUntouched : Type 0
  IsUntouched = (disk.seen new.disk ≡ disk.seen old.disk)
      × ((file : List ℕ) → disk.may_leave new.disk file → disk.may_leave old.disk file)

  -- why segment n wasn't recovered, with so many bytes of room
  abbrev pub RecoveryFails : ℕ → ℕ → RecoveryFault → Type 0
  RecoveryFails n ahead (fault.Read e) = IsUntouched × ReadFails old new e
  RecoveryFails n ahead (fault.Replay e) = IsUntouched × ((text : Bytes) × WasRead text × ReplayFails n (whole_lines text) e)
  RecoveryFails n ahead (fault.Resume e) = (text : Bytes) × WasRead text
      × ResumeFails old new (length (with_ends (whole_lines text)) + ahead + 1) e

  -- why the first lines of segment n weren't carried out and written, with so many bytes of room
  abbrev pub LoadFails : ℕ → Bytes → ℕ → RecoveryFault → Type 0
  LoadFails n text ahead (fault.Read e) = ⊥
  LoadFails n text ahead (fault.Replay e) = (new ≡ old) × ReplayFails n (whole_lines text) e
  LoadFails n text ahead (fault.Resume e) = ResumeFails old new (length text + ahead + 1) e
