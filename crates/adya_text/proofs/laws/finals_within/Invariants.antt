-- The finals so far are within their limits.
use Rattle.std.proofs.Common.{take}
use Rattle.std.specs.List.{AllByRecursion}
use Rattle.adya_values.specs.Mirror.Lines.{finals_of}
use Rattle.adya_line.specs.Meaning.Limits.{IsFinal}
use Rattle.adya_text.proofs.laws.finals_within.Given as goal

abbrev pub invariant-loop-i : goal.invariant-loop-i
invariant-loop-i l = AllByRecursion IsFinal (take l.i (finals_of l.finals))
