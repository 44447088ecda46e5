use Rattle.std.proofs.lemmas.Simd.{map-map}
use Rattle.adya_values.proofs.finals.Finals.keys_rise.Goals as goal

pub returns : goal.returns
returns c = rw map-map c.keys_rise.ensures
