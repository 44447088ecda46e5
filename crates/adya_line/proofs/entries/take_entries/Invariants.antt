use Rattle.std.proofs.Common.{◌≡◌, ◌++◌, length, map}
use Rattle.adya_values.specs.Mirror.Refs.{view_entry}
use Rattle.adya_line.specs.Computing.Reading.{after_entries, entries_of}
use Rattle.adya_line.proofs.entries.take_entries.Given as goal

-- the entries so far are there, and the others are at the front of what is left
pub record AreTaken (l : goal.Live-entries) : Type 0 where
  pub rest : after_entries l.left ≡ after_entries l.bytes
  pub taken : map view_entry l.entries.items ++ entries_of l.left ≡ entries_of l.bytes

abbrev pub invariant-entries : goal.invariant-entries
invariant-entries l = AreTaken l

abbrev pub decreases-entries : goal.decreases-entries
decreases-entries l = length l.left
