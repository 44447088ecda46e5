-- The events so far are within their limits.
use Rattle.std.proofs.Common.{take}
use Rattle.std.specs.List.{AllByRecursion}
use Rattle.adya_values.specs.Mirror.Events.{events_of}
use Rattle.adya_line.specs.Meaning.Limits.{IsEvent}
use Rattle.adya_text.proofs.laws.events_within.Given as goal

abbrev pub invariant-loop-i : goal.invariant-loop-i
invariant-loop-i l = AllByRecursion IsEvent (take l.i (events_of l.events))
