use Rattle.std.proofs.Common.{rules}
use Rattle.adya_audit.proofs.YesIffTextsAccepted.{yes_on_two}
use Rattle.adya_audit.proofs.pair.run_audit.Goals as goal

pub returns-clause-yes : goal.returns-clause-yes
returns-clause-yes g c =
    yes_on_two c.yes_iff_texts_accepted.ensures _ _ _ c.in_ok-verdict.ensures.verdict

pub returns-in_err-verdict-clause-history_fault : goal.returns-in_err-verdict-clause-history_fault
returns-in_err-verdict-clause-history_fault g c = search rules
