use Rattle.std.proofs.Common.{◌≡◌, take}
use Rattle.adya_testing.proofs.histories.txns.Given as goal

abbrev pub invariant-loop-n : goal.invariant-loop-n
invariant-loop-n l = l.txns.items ≡ take l.n-index l.numbers
