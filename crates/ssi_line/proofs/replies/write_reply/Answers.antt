use Rattle.std.proofs.Common.{rules, arith}
use Rattle.ssi_line.proofs.Drafts.{sent, broken}
use Rattle.ssi_line.proofs.replies.write_reply.Goals as goal

pub returns-then-failed-clause-broke : goal.returns-then-failed-clause-broke
returns-then-failed-clause-broke g c =
    broken g.W.Write.contents _ _ _ (search (rules, arith))
    (sent g.W.Write.contents _ _ _ _ _ _ _ c.new-draft.ensures c.send.ensures.empty c.put_line.ensures c.send.ensures.added)
    (search rules)
