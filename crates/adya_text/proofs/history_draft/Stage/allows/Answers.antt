use Rattle.std.proofs.Common.{rules}
use Rattle.adya_text.proofs.history_draft.Stage.allows.Goals as goal

pub returns-in-Orders : goal.returns-in-Orders
returns-in-Orders c = search rules
