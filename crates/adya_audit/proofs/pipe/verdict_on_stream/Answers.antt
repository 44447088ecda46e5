use Rattle.std.proofs.Common.{rules}
use Rattle.adya_audit.proofs.TextVerdicts.{verdict_on_one, fault_on_one}
use Rattle.adya_audit.proofs.pipe.verdict_on_stream.Goals as goal

pub returns-in-Err-Syntax-clause-verdict : goal.returns-in-Err-Syntax-clause-verdict
returns-in-Err-Syntax-clause-verdict g c =
    rw (c.in-Err-Syntax.text-is, c.in-Err-Syntax.line-is)
    (fault_on_one _ c.in-Err-Syntax.text c.in-Err-Syntax.line
    (rw c.in-Err-Syntax.field-0-is at c.in-Err-Syntax.ensures.answer))

pub returns-clause-verdict : goal.returns-clause-verdict
returns-clause-verdict g c = verdict_on_one _ c.in-Ok.texts _ c.in-Ok.ensures.answer c.in_ok-audit.ensures.verdict

pub returns-in-Err-Device-clause-verdict : goal.returns-in-Err-Device-clause-verdict
returns-in-Err-Device-clause-verdict g c = search rules

pub returns-in-Err-Device-clause-ended : goal.returns-in-Err-Device-clause-ended
returns-in-Err-Device-clause-ended g c = search rules

pub returns-in-Err-Device-clause-memory : goal.returns-in-Err-Device-clause-memory
returns-in-Err-Device-clause-memory g c = λ e. absurd (cc e)
