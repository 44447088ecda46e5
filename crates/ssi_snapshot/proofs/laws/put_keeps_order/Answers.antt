use Rattle.ssi_snapshot.proofs.Writing.{put_keys}
use Rattle.ssi_snapshot.proofs.laws.put_keeps_order.Goals as goal

pub returns : goal.returns
returns c = put_keys
