use Rattle.edn.proofs.ItemsRun.{item_runs}
use Rattle.edn.proofs.laws.forms_are_made.Goals as goal

pub returns : goal.returns
returns c = λ ts us f frame outer h. item_runs h frame outer us
