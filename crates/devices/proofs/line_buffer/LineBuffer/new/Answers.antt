use Rattle.std.proofs.Common.{rules}
use Rattle.devices.proofs.line_buffer.LineBuffer.new.Goals as goal

pub returns : goal.returns
returns c = search rules
