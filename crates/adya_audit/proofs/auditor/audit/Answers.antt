use Rattle.adya_values.specs.Mirror.Histories.{history_of}
use Rattle.adya_audit.proofs.YesIffAccepted.{result_yes, result_promise}
use Rattle.adya_audit.proofs.auditor.audit.Goals as goal

pub returns-clause-yes : goal.returns-clause-yes
returns-clause-yes c =
    result_yes (history_of c.args.history.now) c.args.serial.now.txns.items c.args.history.now.shape
    c.yes_iff_accepted.ensures c.verdict.result c.verdict.ensures

pub returns-clause-promise : goal.returns-clause-promise
returns-clause-promise c =
    result_promise (history_of c.args.history.now) c.args.serial.now.txns.items c.args.history.now.shape
    c.yes_iff_accepted.ensures c.accepted_is_serializable.ensures c.verdict.result c.verdict.ensures
