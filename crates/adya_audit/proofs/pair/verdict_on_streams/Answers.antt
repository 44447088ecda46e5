use Rattle.std.proofs.Common.{refl, rules}
use Rattle.adya_audit.proofs.NamesHistoryFault.{fault_named, none_named, verdict_names_none}
use Rattle.adya_audit.proofs.TextVerdicts.{verdict_on_two}
use Rattle.adya_audit.proofs.pair.verdict_on_streams.Goals as goal

pub returns-clause-verdict : goal.returns-clause-verdict
returns-clause-verdict g c =
    verdict_on_two _ _ c.in-Ok.history c.in-Ok-read_serial_early.serial _
    c.in-Ok.ensures.answer c.in-Ok-read_serial_early.ensures.answer c.in_ok-audit.ensures.verdict

pub returns-in-Err-Syntax-clause-history_syntax : goal.returns-in-Err-Syntax-clause-history_syntax
returns-in-Err-Syntax-clause-history_syntax g c =
    rw c.in-Err-Syntax.line-is
    (fault_named c.fault_lines.ensures.one_of_history _ c.in-Err-Syntax.field-0-0 c.in-Err-Syntax.line
    (rw c.in-Err-Syntax.field-0-is at c.in-Err-Syntax.ensures.answer))

pub returns-in-Err-Syntax-read_serial_early-clause-history_syntax :
    goal.returns-in-Err-Syntax-read_serial_early-clause-history_syntax
returns-in-Err-Syntax-read_serial_early-clause-history_syntax g c =
    none_named c.fault_lines.ensures.none_of_history _ c.in-Ok.history _ c.in-Ok.ensures.answer (λ k e. absurd (cc (e)))

pub returns-clause-history_syntax : goal.returns-clause-history_syntax
returns-clause-history_syntax g c =
    verdict_names_none c.fault_lines.ensures.none_of_history _ c.in-Ok.history c.in-Ok-read_serial_early.serial.txns.items
    _ c.in-Ok.ensures.answer c.in_ok-audit.ensures.verdict

pub returns-in-Err-Device-read_serial_early-clause-verdict : goal.returns-in-Err-Device-read_serial_early-clause-verdict
returns-in-Err-Device-read_serial_early-clause-verdict g c = search rules

pub returns-in-Err-Device-read_serial_early-clause-history_syntax : goal.returns-in-Err-Device-read_serial_early-clause-history_syntax
returns-in-Err-Device-read_serial_early-clause-history_syntax g c = search rules

pub returns-in-Err-Device-read_serial_early-clause-certificate_ended : goal.returns-in-Err-Device-read_serial_early-clause-certificate_ended
returns-in-Err-Device-read_serial_early-clause-certificate_ended g c = search rules

pub returns-in-Err-Device-clause-memory : goal.returns-in-Err-Device-clause-memory
returns-in-Err-Device-clause-memory g c = λ e. absurd (cc e)

pub returns-in-Err-Device-read_serial_early-clause-memory : goal.returns-in-Err-Device-read_serial_early-clause-memory
returns-in-Err-Device-read_serial_early-clause-memory g c = λ e. absurd (cc e)

pub returns-in-Err-Device-read_serial_early-clause-history_first : goal.returns-in-Err-Device-read_serial_early-clause-history_first
returns-in-Err-Device-read_serial_early-clause-history_first g c = λ e. absurd (cc e)

pub returns-in-Err-Device-read_serial_early-clause-history_fault : goal.returns-in-Err-Device-read_serial_early-clause-history_fault
returns-in-Err-Device-read_serial_early-clause-history_fault g c = λ e. absurd (cc e)

pub returns-in-Err-Device-clause-serial_only : goal.returns-in-Err-Device-clause-serial_only
returns-in-Err-Device-clause-serial_only g c = λ e. absurd (cc e)

pub returns-in-Err-Device-clause-certificate_fault : goal.returns-in-Err-Device-clause-certificate_fault
returns-in-Err-Device-clause-certificate_fault g c = λ e. absurd (cc e)

pub returns-in-Err-Syntax-clause-not_needed : goal.returns-in-Err-Syntax-clause-not_needed
returns-in-Err-Syntax-clause-not_needed g c = λ k e. refl
