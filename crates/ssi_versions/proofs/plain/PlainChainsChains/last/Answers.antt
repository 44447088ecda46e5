use Rattle.std.proofs.Common.{rules}
use Rattle.ssi_versions.proofs.plain.PlainChainsChains.last.Goals as goal

pub returns : goal.returns
returns c = search rules
