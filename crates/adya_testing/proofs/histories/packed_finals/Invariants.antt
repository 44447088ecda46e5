use Rattle.std.proofs.Common.{◌≡◌, map, take}
use Rattle.adya_values.specs.Mirror.Events.{final_of}
use Rattle.adya_values.specs.Mirror.Lines.{finals_of}
use Rattle.adya_testing.proofs.histories.packed_finals.Given as goal

abbrev pub invariant-loop-pair : goal.invariant-loop-pair
invariant-loop-pair l = finals_of l.list ≡ map final_of (take l.pair-index l.finals)
