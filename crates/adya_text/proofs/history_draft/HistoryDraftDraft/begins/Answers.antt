use Rattle.adya_text.proofs.Machines.{run_begins}
use Rattle.adya_text.proofs.HistoryTexts.{is_machine}
use Rattle.adya_text.proofs.history_draft.HistoryDraftDraft.begins.Goals as goal

pub returns : goal.returns
returns c = λ past run. run_begins is_machine run
