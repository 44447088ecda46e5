use Rattle.std.proofs.Common.{rules}
use Rattle.append_text.proofs.name.Names.name.Goals as goal

pub returns-then-number-eq0 : goal.returns-then-number-eq0
returns-then-number-eq0 c = search rules
