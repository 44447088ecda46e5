use Rattle.ssi_snapshot.proofs.Writing.{put_found}
use Rattle.ssi_snapshot.proofs.laws.put_is_found.Goals as goal

pub returns : goal.returns
returns c = put_found
