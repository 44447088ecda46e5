-- What was read of a file so far.
use Rattle.std.specs.Prelude.{◌≡◌, ◌<◌, ◌≤◌, ℕ, List, length, slice_index}
use Rattle.sqlite_disk.specs.Disk.{MoreFaults}
use Rattle.ssi_log.specs.declared.fault.LogFault.{LogFault}
use Rattle.ssi_log.specs.declared.fault.LogFault.TheVariants as fault
use Rattle.ssi_log.specs.Meaning.Texts.{text_of}

-- the file begins with the text
pub record BeginsWith (file text : List ℕ) : Type 0 where
  pub within : length text ≤ length file
  pub there : (i : ℕ) → i < length text → slice_index file i ≡ slice_index text i

-- the text is that of the file, which a zero ends
abbrev pub IsTextOf : List ℕ → List ℕ → Type 0
IsTextOf file text = (text_of file ≡ text) × (length text < length file)

-- a text can't be read: there is no end to it, memory runs out, or the disk has failed more often than before
abbrev pub ReadingFails : Type 0 → ℕ → ℕ → LogFault → Type 0
ReadingFails no_end before after fault.NoEnd = no_end
ReadingFails no_end before after fault.Memory = Unit {0}
ReadingFails no_end before after (fault.Failed error) = MoreFaults before after
ReadingFails no_end before after _ = ⊥
