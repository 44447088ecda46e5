use Rattle.edn.proofs.OneReading.{one_form}
use Rattle.edn.proofs.laws.one_form.Goals as goal

pub returns : goal.returns
returns c = one_form
