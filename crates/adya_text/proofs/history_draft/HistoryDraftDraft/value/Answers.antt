use Rattle.adya_text.proofs.Machines.{run_value, run_done}
use Rattle.adya_text.proofs.HistoryTexts.{is_machine}
use Rattle.adya_text.proofs.HistoryDrafts.{value_reads}
use Rattle.adya_text.proofs.history_draft.HistoryDraftDraft.value.Goals as goal

pub returns-in_default : goal.returns-in_default
returns-in_default c = λ past run are.
    c.in_default.not-Done (run_value is_machine c.history_lines.ensures.one_text run are).0

-- the constructor takes what the lines held
pub returns : goal.returns
returns c = λ past run.
    let (is, whole) = run_done is_machine c.history_lines.ensures.one_text run c.in-Done.is in
    value_reads c.args.self past c.of_edition.result is whole (c.of_edition.ensures.of_lists is.edition)
