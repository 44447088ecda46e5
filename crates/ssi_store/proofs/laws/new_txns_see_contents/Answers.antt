use Rattle.ssi_store.proofs.NewestVersions.{new_txns_see_contents}
use Rattle.ssi_store.proofs.laws.new_txns_see_contents.Goals as goal

pub returns : goal.returns
returns c pivot d f t fresh low high = new_txns_see_contents pivot d f t fresh low high
