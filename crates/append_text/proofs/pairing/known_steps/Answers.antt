use Rattle.std.proofs.Common.{rules}
use Rattle.append_text.proofs.pairing.known_steps.Goals as goal

pub returns-in-Aborted : goal.returns-in-Aborted
returns-in-Aborted c = search rules
