-- What a log, and the lines on their way there, have of a list of lines.
use Rattle.std.specs.Prelude.{◌≡◌, ◌≤◌, ℕ, Bool, true, false, List, [], ◌++◌, length}
use Rattle.std.specs.List.{All}
use Rattle.sqlite_disk.specs.declared.Disk.{Ghosts}
use Rattle.adya_keys.specs.Meaning.Keys.{Bytes}
use Rattle.adya_line.specs.Meaning.Lines.{IsPlain}
use Rattle.adya_text.specs.Meaning.Texts.{with_ends}
use Rattle.ssi_log.specs.declared.fault.LogFault.{LogFault}
use Rattle.ssi_log.specs.declared.fault.LogFault.TheVariants as fault
use Rattle.ssi_log.specs.declared.log.Log.{Log}
use Rattle.ssi_log.specs.Meaning.Texts.{HasNoZero, text_of}
use Rattle.ssi_log.specs.Machinery.Standing.{HasText, disk_of, synced_of}
use Rattle.ssi_durable.specs.Meaning.Lines.{whole_lines, IsBetween}

-- the file can't grow, and all else is as before
abbrev pub is_full : LogFault → Bool
is_full (fault.Full error) = true
is_full _ = false

-- the log has exactly these lines, and all of them are on the disk
pub record HasAll {D : Type 0} {disk : Ghosts D} (log : Log D disk) (lines : List Bytes) : Type 0 where
  pub plain : All IsPlain lines
  pub has : HasText log (with_ends lines)
  pub synced : synced_of log ≡ length (with_ends lines)

-- whatever a crash leaves of the file, its whole lines are a front of `all` that has all the sure ones
abbrev pub LeavesLines : (List ℕ → Type 0) → List Bytes → List Bytes → Type 0
LeavesLines may_leave sure all = (file : List ℕ) → may_leave file → IsBetween sure (whole_lines (text_of file)) all

-- the log is open, and it and then the buffer have all lines. The sure ones are on the disk, and all of them if the journal is
-- settled
pub record IsLogging {D : Type 0} {disk : Ghosts D} (log : Log D disk) (buffer : Bytes) (settled : Bool)
    (sure all : List Bytes) : Type 0 where
  pub text : Bytes
  pub has : HasText log text
  pub whole : text ++ buffer ≡ with_ends all
  pub clean : HasNoZero buffer
  pub kept : length (with_ends sure) ≤ synced_of log
  pub nothing : settled ≡ true → buffer ≡ []
  pub synced : settled ≡ true → synced_of log ≡ length text

-- a journal of these lines, of which the sure ones are the first. Until its log fails it goes on as above; after that nothing is
-- settled. A crash leaves a front of the lines with all the sure ones, at any time
pub record IsJournal {D : Type 0} {disk : Ghosts D} (log : Log D disk) (buffer : Bytes) (settled failed : Bool)
    (sure all : List Bytes) : Type 0 where
  pub plain : All IsPlain all
  pub more : List Bytes
  pub parts : all ≡ sure ++ more
  pub left : LeavesLines (disk.may_leave (disk_of log)) sure all
  pub going : failed ≡ false → IsLogging log buffer settled sure all
  pub ended : failed ≡ true → settled ≡ false
