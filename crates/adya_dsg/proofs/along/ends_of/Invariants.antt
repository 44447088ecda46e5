use Rattle.std.proofs.Common.{take}
use Rattle.adya_dsg.specs.Machinery.Along.{Wants}
use Rattle.adya_dsg.proofs.along.ends_of.Given as goal

abbrev pub invariant-loop-a : goal.invariant-loop-a
invariant-loop-a l = Wants l.ends (take l.a-index l.cycle)
