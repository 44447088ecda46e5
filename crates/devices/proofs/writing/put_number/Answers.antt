use Rattle.std.proofs.Common.{rules}
use Rattle.devices.proofs.writing.put_number.Goals as goal

pub returns : goal.returns
returns g c = search rules
