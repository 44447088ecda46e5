use Rattle.std.proofs.Common.{rules}
use Rattle.ssi_line.proofs.draft.Draft.make_room.Goals as goal

pub returns-then-count-self-clause-added : goal.returns-then-count-self-clause-added
returns-then-count-self-clause-added g c = search rules
