use Rattle.std.proofs.Common.{rules}
use Rattle.adya_line.specs.Computing.Reading.{writer_at}
use Rattle.adya_line.proofs.order_line.Cursor.writer.Goals as goal

pub returns : goal.returns
unfolding writer_at
returns c = search rules
