use Rattle.std.proofs.Common.{◌≡◌, ◌∷◌, drop}
use Rattle.adya_values.specs.Computing.Shapes.{numbers_rise}
use Rattle.adya_values.proofs.history.numbers_rise.Given as goal

abbrev pub invariant-loop-t : goal.invariant-loop-t
invariant-loop-t l = numbers_rise l.txns ≡ numbers_rise (l.last ∷ drop l.t-index l.rest)
