use Rattle.adya_text.proofs.Runs.{taken}
use Rattle.adya_text.proofs.Machines.{run_stops}
use Rattle.adya_text.proofs.SerialTexts.{is_machine}
use Rattle.adya_text.proofs.serial_draft.SerialDraftDraft.take.Goals as goal

pub returns-in_default-clause-refused : goal.returns-in_default-clause-refused
returns-in_default-clause-refused c = λ _ past run.
    run_stops is_machine c.serial_lines.ensures.one_text run c.in_default.ensures

pub returns-clause-taken : goal.returns-clause-taken
returns-clause-taken c = λ _ past run.
    taken run c.in-Some.ensures c.in_ok-take_allowed.ensures.stage c.in_ok-take_allowed.ensures.holds
