use Rattle.adya_dsg.proofs.CommittedEnds.{ends_commit}
use Rattle.adya_dsg.proofs.laws.edges_join_committed.Goals as goal

pub returns : goal.returns
returns c = ends_commit
