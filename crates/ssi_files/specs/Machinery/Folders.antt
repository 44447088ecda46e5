-- The calls that were made on a folder.
use Rattle.std.specs.Prelude.{List}
use Rattle.sqlite_disk.specs.Events.{Event}
use Rattle.ssi_files.specs.declared.folder.Folder.{Folder}

-- the newest first
abbrev pub calls_of : Folder → List Event
calls_of folder = folder.directory.calls.events
