use Rattle.std.proofs.Common.{rules}
use Rattle.ssi_versions.proofs.plain.is_seen.Goals as goal

pub returns-then-le-2 : goal.returns-then-le-2
returns-then-le-2 c = search rules
