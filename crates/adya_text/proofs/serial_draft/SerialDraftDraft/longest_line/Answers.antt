use Rattle.std.proofs.Common.{subst}
use Rattle.adya_text.specs.Machinery.LongLines.{IsLonger}
use Rattle.adya_text.proofs.Machines.{run_long}
use Rattle.adya_text.proofs.SerialTexts.{is_machine}
use Rattle.adya_text.proofs.SerialDrafts.{within}
use Rattle.adya_text.proofs.serial_draft.SerialDraftDraft.longest_line.Goals as goal

pub returns : goal.returns
returns c = λ past run start longer.
    run_long is_machine c.serial_lines.ensures.one_text _ run (within c.args.self.now.stage) start
    (subst (λ longest. IsLonger longest start) c.longest_line.ensures longer)
