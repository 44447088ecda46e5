use Rattle.std.proofs.Common.{rules}
use Rattle.adya_values.proofs.serial.Serial.new.Goals as goal

pub returns : goal.returns
returns c = search rules
