use Rattle.std.proofs.Common.{rules}
use Rattle.adya_terms.proofs.checked.Checked.is_committed.Goals as goal

pub returns : goal.returns
returns c = search rules
