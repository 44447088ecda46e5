use Rattle.std.proofs.Common.{◌≡◌, ◌<◌, ◌^◌, length}
use Rattle.adya_line.specs.Machinery.Numbers.{number_from}
use Rattle.adya_line.proofs.fields.number_from.Given as goal

abbrev pub invariant-digits : goal.invariant-digits
invariant-digits l = (l.number < 2 ^ 32) × (number_from l.number l.rest ≡ number_from l.start l.bytes)

abbrev pub decreases-digits : goal.decreases-digits
decreases-digits l = length l.rest
