use Rattle.std.proofs.Common.{rules}
use Rattle.edn.proofs.token.may_go_on.Goals as goal

pub returns-in-Unread : goal.returns-in-Unread
returns-in-Unread c = search rules
