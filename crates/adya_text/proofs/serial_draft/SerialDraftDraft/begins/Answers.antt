use Rattle.adya_text.proofs.Machines.{run_begins}
use Rattle.adya_text.proofs.SerialTexts.{is_machine}
use Rattle.adya_text.proofs.serial_draft.SerialDraftDraft.begins.Goals as goal

pub returns : goal.returns
returns c = λ past run. run_begins is_machine run
