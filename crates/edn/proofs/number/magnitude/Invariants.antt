use Rattle.std.proofs.Common.{◌≡◌, drop}
use Rattle.edn.specs.Meaning.Numbers.{magnitude_after}
use Rattle.edn.proofs.number.magnitude.Given as goal

abbrev pub invariant-loop-digit : goal.invariant-loop-digit
invariant-loop-digit l = magnitude_after l.radix l.value (drop l.digit-index l.digits) ≡ magnitude_after l.radix 0 l.digits
