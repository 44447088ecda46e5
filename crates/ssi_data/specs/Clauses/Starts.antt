-- What a server starts with.
use Rattle.std.specs.Prelude.{Bool, ◌≡◌, ℕ, [], length, IsTrue}
use Rattle.sqlite_disk.specs.declared.Disk.{Ghosts}
use Rattle.adya_keys.specs.Meaning.Keys.{Bytes}
use Rattle.ssi_store.specs.Meaning.Courses.{Course}
use Rattle.ssi_log.specs.Machinery.Standing.{disk_of}
use Rattle.ssi_log.specs.Meaning.Texts.{text_of}
use Rattle.ssi_durable.specs.declared.recovery.Recovered.{Recovered}
use Rattle.ssi_durable.specs.declared.server.Server.{Server}
use Rattle.ssi_durable.specs.Meaning.Lines.{loads_len, torn, whole_lines}
use Rattle.ssi_durable.specs.Clauses.Serving.{from_start}
use Rattle.ssi_durable.specs.Mirror.Servers.{Serves, log_of}

module _ {T D : Type 0} {disk : Ghosts D} where
  -- no wrong answer of the file was taken as true
  abbrev pub IsClean : Server T D disk → Type 0
  IsClean server = IsTrue (disk.is_clean (disk_of (log_of server)))

  -- The server of segment n serves the whole lines of this text, with no call so far. The text is that of the file that
  -- showed these bytes, if no wrong answer was taken as true. It has so many whole lines, so many bytes after the last one, and
  -- so many bytes of loads. Of all replies only `committed` waits for the disk if it is so early
  pub record HasStarted (early dumps : Bool) (is_at : T → Course → Type 0) (n : ℕ) (seen : Bytes) (server : Server T D disk)
      (recovered : Recovered) (text : Bytes) : Type 0 where
    pub serves : Serves dumps is_at n (from_start early (whole_lines text)) server []
    pub read : IsClean server → text_of seen ≡ text
    pub lines : recovered.lines ≡ length (whole_lines text)
    pub torn : recovered.torn ≡ length (torn text)
    pub loaded : recovered.loaded ≡ loads_len (whole_lines text)
