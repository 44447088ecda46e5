-- What a log has of its file.
use Rattle.std.specs.Prelude.{◌≡◌, ◌≤◌, ◌<◌, ◌-◌, ℕ, true, false, List, length}
use Rattle.sqlite_disk.specs.declared.Disk.{Ghosts}
use Rattle.ssi_log.specs.declared.fault.LogFault.{LogFault}
use Rattle.ssi_log.specs.declared.fault.LogFault.TheVariants as fault
use Rattle.ssi_log.specs.declared.log.Log.{Log}
use Rattle.ssi_log.specs.Meaning.Texts.{HasNoZero}
use Rattle.ssi_log.specs.Machinery.Zeros.{IsOver, LeavesOver}

-- the log is open, this is its text, and a read of the file returns it
pub record HasText {D : Type 0} {disk : Ghosts D} (l : Log D disk) (text : List ℕ) : Type 0 where
  pub is_open : l.is_open ≡ true
  pub end : l.end ≡ length text
  pub synced : l.synced ≤ l.end
  pub short : l.end < l.room
  pub plain : HasNoZero text
  pub seen : IsOver text l.end l.room (disk.seen l.disk)
  pub left : LeavesOver (disk.may_leave l.disk) text l.synced l.room

abbrev pub disk_of : {D : Type 0} {disk : Ghosts D} → Log D disk → D
disk_of l = l.disk

-- so many first bytes of the text are on the disk for sure
abbrev pub synced_of : {D : Type 0} {disk : Ghosts D} → Log D disk → ℕ
synced_of l = l.synced

-- how many bytes may still be added
abbrev pub room_of : {D : Type 0} {disk : Ghosts D} → Log D disk → ℕ
room_of l = l.room - l.end - 1

-- no call of it but `read` and `resume` does anything
abbrev pub IsClosed : {D : Type 0} {disk : Ghosts D} → Log D disk → Type 0
IsClosed l = l.is_open ≡ false

-- so many bytes has the text of a log that is open
abbrev pub end_of : {D : Type 0} {disk : Ghosts D} → Log D disk → ℕ
end_of l = l.end

-- the text stays, and the call may be tried again
abbrev pub MayGoOn : LogFault → Type 0
MayGoOn fault.NoRoom = Unit {0}
MayGoOn (fault.Full e) = Unit {0}
MayGoOn _ = ⊥
