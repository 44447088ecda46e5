use Rattle.std.proofs.Common.{◌∙◌, ap, is_some}
use Rattle.adya_values.specs.Mirror.Events.{entry_of}
use Rattle.ssi_snapshot.proofs.Storing.{some_mapped}
use Rattle.ssi_snapshot.proofs.view.View.owns.Goals as goal

pub returns : goal.returns
returns c = c.is_some.ensures ∙ some_mapped entry_of c.get.result ∙ ap is_some c.get.ensures
