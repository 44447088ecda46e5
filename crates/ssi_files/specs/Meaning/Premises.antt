-- What is supposed of the system, since no proof can show it. All that is said of a file or a folder in terms of the record
-- of its calls speaks of the real one only under these premises.
--
-- 1. Each method of `src/host.rt` and `src/directory.rt` makes the call that it notes. The record is in no memory, so these
--    methods have to be read.
-- 2. A file's results are those of a file that held what it is said to have held: `Agrees`. So nobody else may write to it.
-- 3. After the end of a process, a crash of the system or a loss of power, a file has one of the contents that its record
--    allows: `IsFoundAfter`. In particular each byte of a write that was cut off is old or new, below the length that was
--    synced last, and a synced byte stays.
-- 4. After these the folder has each segment whose name was put on the disk, unless somebody removed it: `KeepsSegments`.
--    A rename that wasn't put on the disk is there or isn't, and nothing in between.
-- 5. The system gives the lock of one file to one process at a time, and takes it back when the process ends.
use Rattle.std.specs.Prelude.{ℕ, Bool, false, ◌&&◌, ◌||◌, ◌==◌, List, [], ◌∷◌, IsTrue}
use Rattle.sqlite_disk.specs.declared.modelled.Modelled.{Modelled}
use Rattle.sqlite_disk.specs.declared.calls.Calls as calls
use Rattle.sqlite_disk.specs.declared.start.Start.{Ghosts}
use Rattle.sqlite_disk.specs.Events.{Event}
use Rattle.ssi_files.specs.declared.host.Host.{Host}
use Rattle.ssi_files.specs.declared.name.Ending.TheVariants.{Log}
use Rattle.ssi_files.specs.Meaning.Files.{may_leave, model_of}
use Rattle.ssi_files.specs.Meaning.FolderCalls.{is_listed}
use Rattle.ssi_files.specs.Meaning.Names.{IsNumber, file_name}

module _ {S : Type 0} {g : calls.Ghosts Host} {start : Ghosts S} where
  -- the results so far are those of a file that held what `start` says
  abbrev pub Agrees : Modelled Host S g start → Type 0
  Agrees file = IsTrue (model_of file).is_honest

  -- Whoever opens the file next finds these bytes.
  abbrev pub IsFoundAfter : Modelled Host S g start → List ℕ → Type 0
  IsFoundAfter file bytes = may_leave file bytes

-- the new file of segment n became its file
abbrev pub is_renamed : ℕ → List Event → Bool
is_renamed n [] = false
is_renamed n (call ∷ earlier) = (call.0 == 7 && (call.1 == n && call.3)) || is_renamed n earlier

-- and after that the names in the folder were put on the disk
abbrev pub is_kept : ℕ → List Event → Bool
is_kept n [] = false
is_kept n (call ∷ earlier) = (call.0 == 1 && (call.3 && is_renamed n earlier)) || is_kept n earlier

-- `before` are the calls of one process on a folder, and `later` those of a process that lists the segments after it.
abbrev pub KeepsSegments : List Event → List Event → Type 0
KeepsSegments before later = (n : ℕ) → IsNumber n → IsTrue (is_kept n before) → IsTrue (is_listed later (file_name n Log))
