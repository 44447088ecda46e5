use Rattle.std.proofs.Common.{◌≡◌, sym, ap, subst, ◌∙◌}
use Rattle.adya_text.specs.Meaning.Texts.{IsSerial, serial_lines, with_ends}
use Rattle.adya_text.proofs.Machines.{run_value, run_done}
use Rattle.adya_text.proofs.SerialTexts.{is_machine}
use Rattle.adya_text.proofs.serial_draft.SerialDraftDraft.value.Goals as goal

pub returns-in_default : goal.returns-in_default
returns-in_default c = λ past run are.
    c.in_default.not-Done (run_value is_machine c.serial_lines.ensures.one_text run are).0

pub returns : goal.returns
returns c = λ past run.
    let (is, whole) = run_done is_machine c.serial_lines.ensures.one_text run c.in-Done.is in
    let same : c.args.self.txns.items ≡ c.new.result.txns.items = ap (λ ts. ts.items) (sym c.new.ensures) in
    (subst IsSerial same is, ap with_ends (whole ∙ ap serial_lines same))
