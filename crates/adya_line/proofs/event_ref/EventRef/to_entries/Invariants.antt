use Rattle.std.proofs.Common.{◌≡◌, ◌++◌, length, map}
use Rattle.adya_values.specs.Mirror.Events.{entry_of}
use Rattle.adya_line.specs.Mirror.{view, entries_in, entries_left}
use Rattle.adya_line.proofs.event_ref.EventRef.to_entries.Given as goal

abbrev pub invariant-loop-entry : goal.invariant-loop-entry
invariant-loop-entry l = map entry_of l.entries.items ++ entries_left l.left ≡ entries_in (view l.self)

abbrev pub decreases-loop-entry : goal.decreases-loop-entry
decreases-loop-entry l = length (entries_left l.left)
