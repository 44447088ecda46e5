use Rattle.std.proofs.Common.{length}
use Rattle.edn.specs.Meaning.Views.{forms_of}
use Rattle.append_text.proofs.EdnForms.{HasNumbersBack}
use Rattle.append_text.proofs.edn_data.numbers_in.Given as goal

abbrev pub invariant-loop-form : goal.invariant-loop-form
invariant-loop-form l = HasNumbersBack (forms_of l.fn.forms) (forms_of l.left) l.place l.numbers.items

abbrev pub decreases-loop-form : goal.decreases-loop-form
decreases-loop-form l = length (forms_of l.left)
