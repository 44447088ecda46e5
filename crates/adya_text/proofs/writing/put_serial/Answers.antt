use Rattle.std.proofs.Common.{arith}
use Rattle.std.proofs.lemmas.Grind.{common_steps}
use Rattle.adya_text.specs.Machinery.TextParts.{serial_parts}
use Rattle.adya_text.proofs.writing.put_serial.Goals as goal

pub returns : goal.returns
unfolding serial_parts
returns g c = grind (arith, common_steps)
