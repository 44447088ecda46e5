-- The entries so far are within their limits.
use Rattle.std.proofs.Common.{take}
use Rattle.std.specs.List.{AllByRecursion}
use Rattle.adya_values.specs.Mirror.Events.{entries_of}
use Rattle.adya_line.specs.Meaning.Limits.{IsEntry}
use Rattle.adya_line.proofs.laws.entries_within.Given as goal

abbrev pub invariant-loop-j : goal.invariant-loop-j
invariant-loop-j l = AllByRecursion IsEntry (take l.j (entries_of l.entries))
