-- What an open file shows, as a disk.
use Rattle.std.specs.Prelude.{◌≡◌, ℕ, Bool, true, List}
use Rattle.sqlite_disk.specs.declared.modelled.Modelled.{Modelled}
use Rattle.sqlite_disk.specs.declared.calls.Calls as calls
use Rattle.sqlite_disk.specs.declared.start.Start.{Ghosts}
use Rattle.sqlite_disk.specs.Disk.{Only}
use Rattle.sqlite_disk.specs.Events.{Model, replay}
use Rattle.sqlite_disk.specs.History.{MayLeave}
use Rattle.sqlite_disk.specs.Modelled.{start_of}
use Rattle.ssi_files.specs.declared.host.Host.{Host}

module _ {S : Type 0} {g : calls.Ghosts Host} {start : Ghosts S} where
  -- what the calls so far make of what the file held
  abbrev pub model_of : Modelled Host S g start → Model
  model_of file = replay (start_of start file) file.calls.calls.events

  -- its member `seen`: the bytes that a read returns
  abbrev pub seen : Modelled Host S g start → List ℕ
  seen file = (model_of file).seen

  -- its member `is_mixing`: a crash leaves each byte of a write that it cuts off old or new
  abbrev pub is_mixing : Modelled Host S g start → Bool
  is_mixing file = start.is_mixing

  -- its member `may_leave`: what a crash at this moment may leave of the file
  abbrev pub may_leave : Modelled Host S g start → List ℕ → Type 0
  may_leave file = MayLeave start.is_mixing (model_of file).seen (model_of file).synced (model_of file).steps

  -- The file has these bytes, and they are on the disk. It can be used, and nothing has failed.
  pub record HasJust (bytes : List ℕ) (file : Modelled Host S g start) : Type 0 where
    pub seen : seen file ≡ bytes
    pub left : Only bytes (may_leave file)
    pub usable : (model_of file).is_usable ≡ true
    pub honest : (model_of file).is_honest ≡ true
    pub faults : (model_of file).faults ≡ 0
