use Rattle.ssi_line.proofs.Drafts.{added_then}
use Rattle.ssi_line.proofs.replies.put_line.Goals as goal

pub returns : goal.returns
returns g c = added_then g.W.Write.contents _ _ _ _ _ _ _ _ c.put_answer.ensures c.put.ensures
