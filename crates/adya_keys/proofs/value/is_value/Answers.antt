use Rattle.std.proofs.Common.{rules}
use Rattle.adya_keys.proofs.value.is_value.Goals as goal

pub returns-then-text-le-MAX_VALUE_LEN : goal.returns-then-text-le-MAX_VALUE_LEN
returns-then-text-le-MAX_VALUE_LEN c = search rules
