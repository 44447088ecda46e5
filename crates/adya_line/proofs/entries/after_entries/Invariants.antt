use Rattle.std.proofs.Common.{◌≡◌, length}
use Rattle.adya_line.specs.Computing.Reading.{after_entries}
use Rattle.adya_line.proofs.entries.after_entries.Given as goal

abbrev pub invariant-entries : goal.invariant-entries
invariant-entries l = after_entries l.left ≡ after_entries l.bytes

abbrev pub decreases-entries : goal.decreases-entries
decreases-entries l = length l.left
