use Rattle.adya_values.specs.Mirror.Histories.{history_of}
use Rattle.adya_values.specs.Computing.Faults.{first_fault}
use Rattle.adya_terms.proofs.checked.Checked.history.Goals as goal
use Rattle.lemmas.proofs.Options.{none_from}

pub returns-clause-checked : goal.returns-clause-checked
returns-clause-checked c =
    c.checked_iff_no_fault.ensures.sound (history_of c.args.self.now.history.now) (none_from (first_fault (history_of c.args.self.now.history.now)) c.args.self.now.checked)
