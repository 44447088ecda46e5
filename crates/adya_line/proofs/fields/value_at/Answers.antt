use Rattle.std.proofs.Common.{arith}
use Rattle.adya_keys.specs.Meaning.Keys.{is_value_byte}
use Rattle.adya_line.proofs.LineParts.{front_good}
use Rattle.adya_line.proofs.fields.value_at.Goals as goal

pub returns-clause-good : goal.returns-clause-good
returns-clause-good c =
    let n = c.value_len-len.ensures.value in
    rw (c.split_at.ensures.front, n) (front_good 64 is_value_byte c.args.bytes.now (omega arith) (omega arith))
