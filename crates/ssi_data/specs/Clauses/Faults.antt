-- Which reason a fault gives, and which may pass.
use Rattle.std.specs.Prelude.{List, ℕ, ℤ, pos, Bool, true, false, ◌++◌, ◌||◌, Option, Some, None, codes, decimal}
use Rattle.std.specs.Ordering.{int_eq}
use Rattle.std.specs.IoError.{raw_os_error}
use Rattle.sqlite_disk.specs.Refusal.{is_no_room}
use Rattle.ssi_files.specs.declared.fault.FolderFault.{FolderFault}
use Rattle.ssi_files.specs.declared.fault.FolderFault.TheVariants as folder
use Rattle.ssi_log.specs.declared.fault.LogFault.{LogFault}
use Rattle.ssi_log.specs.declared.fault.LogFault.TheVariants as log
use Rattle.ssi_durable.specs.declared.fault.ReplayFault.{ReplayFault}
use Rattle.ssi_durable.specs.declared.fault.ReplayFault.TheVariants as replay
use Rattle.ssi_durable.specs.declared.fault.RecoveryFault.{RecoveryFault}
use Rattle.ssi_durable.specs.declared.fault.RecoveryFault.TheVariants as recovery
use Rattle.ssi_data.specs.declared.fault.DataFault.{DataFault}
use Rattle.ssi_data.specs.declared.fault.DataFault.TheVariants.{Memory, NotAFolder, NoRight, InUse, Header, Line, NoEnd, Unusable, System}

abbrev pub of_folder : FolderFault → DataFault
of_folder folder.NotAFolder = NotAFolder
of_folder folder.NoRight = NoRight
of_folder folder.InUse = InUse
of_folder folder.Memory = Memory
of_folder (folder.System error) = System error

abbrev pub of_log : LogFault → DataFault
of_log log.Closed = Unusable
of_log log.NoEnd = NoEnd
of_log log.NoRoom = Unusable
of_log log.Memory = Memory
of_log (log.Full error) = System error
of_log (log.Failed error) = System error

abbrev pub of_replay : ReplayFault → DataFault
of_replay replay.Header = Header
of_replay (replay.Damaged line) = Line line
of_replay (replay.Memory line) = Memory

abbrev pub of_recovery : RecoveryFault → DataFault
of_recovery (recovery.Read fault) = of_log fault
of_recovery (recovery.Replay fault) = of_replay fault
of_recovery (recovery.Resume fault) = of_log fault

-- what is printed of it; what the system says no clause knows
abbrev pub reason_of : DataFault → Option (List ℕ)
reason_of Memory = Some (codes "out of memory")
reason_of NotAFolder = Some (codes "not a folder")
reason_of NoRight = Some (codes "no right")
reason_of InUse = Some (codes "in use")
reason_of Header = Some (codes "header")
reason_of (Line number) = Some (codes "line " ++ decimal number)
reason_of NoEnd = Some (codes "no end")
reason_of Unusable = Some (codes "unusable")
reason_of (System error) = None

-- one of the system's numbers for no more open files: in a process, and at all
abbrev pub is_no_descriptor : Option ℤ → Bool
is_no_descriptor None = false
is_no_descriptor (Some code) = int_eq (pos 24) code || int_eq (pos 23) code

-- it may be tried again after this fault
abbrev pub may_wait : DataFault → Bool
may_wait Memory = true
may_wait (System error) = is_no_room error || is_no_descriptor (raw_os_error error)
may_wait _ = false
