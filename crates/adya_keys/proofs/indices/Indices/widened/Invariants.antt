-- The numbers so far are there.
use Rattle.std.proofs.Common.{◌≡◌, take}
use Rattle.adya_keys.proofs.indices.Indices.widened.Given as goal

abbrev pub invariant-loop-number : goal.invariant-loop-number
invariant-loop-number l = l.wide.items ≡ take l.number-index l.number-items
