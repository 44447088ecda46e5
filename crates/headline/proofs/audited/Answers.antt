use Rattle.std.proofs.Common.{◌≡◌, refl, subst, sym}
use Rattle.adya_audit.specs.Meaning.Verdicts.{Yes}
use Rattle.adya_audit.specs.Clauses.TextVerdicts.{AreAccepted}
use Rattle.headline.proofs.audited.Goals as goal

pub returns-in-Ok-clause-yes : goal.returns-in-Ok-clause-yes
returns-in-Ok-clause-yes c input gets =
    let h = c.args.left.now.history.items in
    let s = c.args.left.now.certificate.items in
    let accepted : AreAccepted h s = (c.yes_iff_texts_accepted.ensures h s Yes gets.yes).0 refl in
    let history_is : c.new-history.result.device.now ≡ h = rw c.new-history.ensures.device c.as_slice.ensures.value in
    let certificate_is : c.new-certificate.result.device.now ≡ s = rw c.new-certificate.ensures.device c.as_slice-2.ensures.value in
    c.in-Ok.ensures.yes.1
    (subst (λ x. AreAccepted x c.new-certificate.result.device.now) (sym history_is) (subst (AreAccepted h) (sym certificate_is) accepted))
