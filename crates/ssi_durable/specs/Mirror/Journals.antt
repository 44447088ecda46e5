-- What clauses see of a journal.
use Rattle.std.specs.Prelude.{◌≤◌, ◌+◌, Bool, List, length}
use Rattle.sqlite_disk.specs.declared.Disk.{Ghosts}
use Rattle.adya_keys.specs.Meaning.Keys.{Bytes}
use Rattle.ssi_durable.specs.declared.journal.Journal.{Journal}
use Rattle.ssi_durable.specs.Clauses.Journals.{IsJournal}

module _ {D : Type 0} {disk : Ghosts D} where
  -- all lines are on the disk
  abbrev pub is_settled : Journal D disk → Bool
  is_settled j = j.is_settled

  -- a call of the log has failed
  abbrev pub has_failed : Journal D disk → Bool
  has_failed j = j.has_failed

  abbrev pub buffer_of : Journal D disk → Bytes
  buffer_of j = j.buffer

  -- there is room for a line
  abbrev pub HasRoom : Journal D disk → Type 0
  HasRoom j = length j.buffer + 4097 ≤ 65536

  -- it has all these lines, and a crash leaves the sure ones
  abbrev pub Keeps : Journal D disk → List Bytes → List Bytes → Type 0
  Keeps j sure all = IsJournal j.log j.buffer j.is_settled j.has_failed sure all
