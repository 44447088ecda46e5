use Rattle.std.proofs.Common.{rules}
use Rattle.adya_keys.proofs.key.is_key.Goals as goal

pub returns-then-text-le-MAX_KEY_LEN : goal.returns-then-text-le-MAX_KEY_LEN
returns-then-text-le-MAX_KEY_LEN c = search rules
