use Rattle.std.proofs.Common.{◌≡◌, [], ◌∷◌, ◌++◌, sym, ap, subst, ◌∙◌}
use Rattle.std.specs.Prelude.{flat_map}
use Rattle.std.proofs.lemmas.Grind.{flat_map-append}
use Rattle.std.proofs.lemmas.List.{append-nil}
use Rattle.std.proofs.lemmas.Result.{err_from_is_err_and}
use Rattle.edn.specs.Meaning.Readers.{form_read, line_read}
use Rattle.append_text.specs.declared.text_form.TextForm.TheVariants.{Edn}
use Rattle.append_text.specs.Meaning.Data.{parts}
use Rattle.append_text.specs.Meaning.Texts.{IsFaultOf}
use Rattle.append_text.specs.Machinery.Collectors.{HasCollected}
use Rattle.append_text.specs.Machinery.EdnFaults.{IsRefusedForm}
use Rattle.append_text.proofs.TextFaults.{device_blamed, edn_fault, ends_on, form_fault, not_device}
use Rattle.append_text.proofs.edn_text.edn_text.Goals as goal

pub loop-reader-init : goal.loop-reader-init
loop-reader-init g c = (([], c.new-collector.ensures Edn, λ text h. h), λ goes_on. goes_on)

pub loop-reader-preserved : goal.loop-reader-preserved
loop-reader-preserved g c =
    let ((fs, took, read), _) = c.loop-reader.invariant in
    let f = form_read c.read.new.self in
    let more : flat_map parts (fs ++ f ∷ []) ≡ flat_map parts fs ++ parts f =
    flat_map-append parts fs (f ∷ []) ∙ ap (λ r. flat_map parts fs ++ r) (append-nil (parts f)) in (
      (
        fs ++ f ∷ [],
        subst (λ gs. HasCollected Edn gs c.take_form.new.collector) (sym more)
            (subst (λ g. HasCollected Edn (flat_map parts fs ++ parts g) c.take_form.new.collector) c.form.ensures
            (c.in_ok-take_form.ensures.taken (flat_map parts fs) took)),
        λ text h. c.in_ok-read.ensures.extends text fs (read text h) c.if-branch.true,
      ),
      λ _. c.in_ok-read.ensures.unfailed,
    )

pub returns-in_err-read-clause-fault : goal.returns-in_err-read-clause-fault
returns-in_err-read-clause-fault g c = λ text h.
    let ((fs, took, reads), _) = c.loop-reader.invariant in
    let read = reads text h in
    let p = err_from_is_err_and c.from_residual.result c.from_residual.ensures.1 in
    rw p.1 (subst (IsFaultOf text) (sym p.2)
    (edn_fault text c.in_err-read.field-0.0 (c.in_err-read.ensures.faulty text fs read)))

pub returns-in_err-take_form-clause-fault : goal.returns-in_err-take_form-clause-fault
returns-in_err-take_form-clause-fault g c = λ text h.
    let ((fs, took, reads), _) = c.loop-reader.invariant in
    let read = reads text h in
    let f = form_read c.read.new.self in
    let e = c.in_err-take_form.field-0.0 in
    let next = c.in_ok-read.ensures.extends text fs read c.if-branch.true in
    let p = err_from_is_err_and c.from_residual-in_err-take_form.result c.from_residual-in_err-take_form.ensures.1 in
    rw p.1 (subst (IsFaultOf text) (sym p.2)
    (form_fault text fs f (line_read c.read.new.self) e
    (ends_on text (fs ++ f ∷ []) c.read.new.self (g.S.Read.remaining c.read.new.source) next)
    (subst (λ line. IsRefusedForm (flat_map parts fs) f line e) c.line.ensures
    (subst (λ d. IsRefusedForm (flat_map parts fs) d c.line.result e) c.form.ensures
    (c.in_err-take_form.ensures.refused (flat_map parts fs) took)))))

pub returns-clause-history : goal.returns-clause-history
returns-clause-history g c = λ text h.
    let ((fs, took, reads), _) = c.loop-reader.invariant in
    let read = reads text h in
    (fs, c.in_ok-read.ensures.whole text fs read c.if-branch.false, c.finish.ensures Edn (flat_map parts fs) took)

pub returns-in_err-read-clause-device : goal.returns-in_err-read-clause-device
returns-in_err-read-clause-device g c = λ unfailed.
    let p = err_from_is_err_and c.from_residual.result c.from_residual.ensures.1 in
    let e = c.in_err-read.field-0.0 in
    rw p.1 (λ is. device_blamed (g.S.Source.is_failed c.read.new.source) c.loop-reader.reader e c.in_err-read.ensures.fault
    (c.loop-reader.invariant.1 unfailed e) (sym p.2 ∙ is))

pub returns-in_err-take_form-clause-device : goal.returns-in_err-take_form-clause-device
returns-in_err-take_form-clause-device g c = λ unfailed.
    let ((fs, took, _), _) = c.loop-reader.invariant in
    let p = err_from_is_err_and c.from_residual-in_err-take_form.result c.from_residual-in_err-take_form.ensures.1 in
    let e = c.in_err-take_form.field-0.0 in
    rw p.1 (λ is. absurd (not_device (flat_map parts fs) _ c.line.result e (c.in_err-take_form.ensures.refused (flat_map parts fs) took)
    (sym p.2 ∙ is)))
