use Rattle.ssi_snapshot.proofs.ByKeys.{by_keys}
use Rattle.ssi_snapshot.proofs.laws.list_is_by_key.Goals as goal

pub returns : goal.returns
returns c = by_keys
