use Rattle.ssi_store.proofs.NewestVersions.{finals_are_contents}
use Rattle.ssi_store.proofs.laws.finals_are_contents.Goals as goal

pub returns : goal.returns
returns c pivot d f = finals_are_contents c.commits_are_listed.ensures pivot d f
