-- When each call of a log fails with which fault, and what it leaves then.
use Rattle.std.specs.Prelude.{◌≡◌, ◌⊎◌, ◌≤◌, ◌<◌, ◌+◌, ◌^◌, ℕ, false, IsTrue}
use Rattle.sqlite_disk.specs.Disk.{MoreFaults}
use Rattle.sqlite_disk.specs.declared.Disk.{Ghosts}
use Rattle.ssi_log.specs.declared.fault.LogFault.{LogFault}
use Rattle.ssi_log.specs.declared.fault.LogFault.TheVariants as fault
use Rattle.ssi_log.specs.declared.log.Log.{Log}
use Rattle.ssi_log.specs.Meaning.Texts.{HasNoZero}
use Rattle.ssi_log.specs.Machinery.Standing.{IsClosed, end_of, room_of, synced_of}

module _ {D : Type 0} {disk : Ghosts D} (old new : Log D disk) where
  -- a call of the disk has failed
  abbrev pub DiskFailed : Type 0
  DiskFailed = MoreFaults (disk.faults old.disk) (disk.faults new.disk)

  -- the file has the bytes that it had
  abbrev pub FileStays : Type 0
  FileStays = disk.seen new.disk ≡ disk.seen old.disk

  -- so many bytes were to be added
  abbrev pub AppendFails : ℕ → LogFault → Type 0
  AppendFails more fault.Closed = (new ≡ old) × (IsClosed old ⊎ (disk.is_mixing old.disk ≡ false))
  AppendFails more fault.NoRoom = (new ≡ old) × (room_of old < more)
  AppendFails more (fault.Failed error) = IsClosed new × DiskFailed
  AppendFails more _ = ⊥

  abbrev pub SyncFails : LogFault → Type 0
  SyncFails fault.Closed = (new ≡ old) × IsClosed old
  SyncFails (fault.Failed error) = IsClosed new × DiskFailed
  SyncFails _ = ⊥

  -- so many zeros more were to be put behind the text; if the disk is full, the log has as much room as before
  abbrev pub ExtendFails : ℕ → LogFault → Type 0
  ExtendFails more fault.Closed = (new ≡ old) × (IsClosed old ⊎ (disk.is_mixing old.disk ≡ false))
  ExtendFails more fault.NoRoom = (new ≡ old) × (2 ^ 64 ≤ end_of old + room_of old + 1 + more)
  ExtendFails more (fault.Full error) = (room_of new ≡ room_of old) × (synced_of new ≡ synced_of old) × DiskFailed
  ExtendFails more (fault.Failed error) = IsClosed new × DiskFailed
  ExtendFails more _ = ⊥

  abbrev pub ReadFails : LogFault → Type 0
  ReadFails fault.Closed = (new ≡ old) × (disk.is_usable old.disk ≡ false)
  ReadFails fault.NoEnd = IsTrue (disk.is_clean new.disk) → HasNoZero (disk.seen old.disk)
  ReadFails fault.Memory = Unit {0}
  ReadFails (fault.Failed error) = DiskFailed
  ReadFails _ = ⊥

  -- the text, the zeros and one more were to have so many bytes; whether a disk mixes is asked after its length
  abbrev pub ResumeFails : ℕ → LogFault → Type 0
  ResumeFails all fault.Closed = FileStays × ((disk.is_usable old.disk ≡ false) ⊎ (disk.is_mixing new.disk ≡ false))
  ResumeFails all fault.NoRoom = FileStays × (2 ^ 64 ≤ all)
  ResumeFails all (fault.Failed error) = DiskFailed
  ResumeFails all _ = ⊥
