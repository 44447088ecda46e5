use Rattle.std.proofs.Common.{◌≡◌, Some, sym, subst, ◌∙◌}
use Rattle.std.specs.Prelude.{IfErr, IfOk}
use Rattle.std.specs.Io.KnownBytes.{prepend_known}
use Rattle.std.proofs.lemmas.Result.{err_from_is_err_and}
use Rattle.append_text.specs.Meaning.JsonTexts.{IsFaultIn, IsHistoryIn}
use Rattle.append_text.specs.Meaning.Notations.{after_mark, notation_in}
use Rattle.append_text.specs.Machinery.BufferTexts.{pending_in}
use Rattle.append_text.proofs.FirstBytes.{begun_text, nothing_pending}
use Rattle.append_text.proofs.JsonReadings.{device_in}
use Rattle.append_text.proofs.TextFaults.{begun_unfailed}
use Rattle.append_text.proofs.reading.read_history.Goals as goal

pub returns-in_ok-after-in-Edn-clause-history : goal.returns-in_ok-after-in-Edn-clause-history
returns-in_ok-after-in-Edn-clause-history g c = λ text is.
    let left = g.S.Read.remaining c.form.new.source in
    let none = c.in_ok-skip_mark.ensures.kept text c.new-buffer.ensures.start c.new-buffer.ensures.end
    (nothing_pending (pending_in c.new-buffer.result) (g.S.Read.remaining c.args.source.now) text c.new-buffer.ensures.pending is) in
    let begun = after_mark text in
    let start = c.in_ok-skip_mark.ensures.start ∙ c.new-buffer.ensures.start in
    subst (λ n. IfOk c.edn_text.result (IsHistoryIn n (after_mark text)))
    (sym c.in-Edn.is ∙ c.in_ok-form.ensures.form begun start none)
    (c.edn_text.ensures.history begun (begun_text begun c.pending.result.now c.in_ok-after-in-Edn.field-0 left
    (subst (λ p. prepend_known p left ≡ Some (after_mark text)) (sym c.pending.ensures) (c.in_ok-form.ensures.kept begun none))
    c.in_ok-after-in-Edn.ensures.begins))

pub returns-in_ok-after-in-Edn-clause-fault : goal.returns-in_ok-after-in-Edn-clause-fault
returns-in_ok-after-in-Edn-clause-fault g c = λ text is.
    let left = g.S.Read.remaining c.form.new.source in
    let none = c.in_ok-skip_mark.ensures.kept text c.new-buffer.ensures.start c.new-buffer.ensures.end
    (nothing_pending (pending_in c.new-buffer.result) (g.S.Read.remaining c.args.source.now) text c.new-buffer.ensures.pending is) in
    let begun = after_mark text in
    let start = c.in_ok-skip_mark.ensures.start ∙ c.new-buffer.ensures.start in
    subst (λ n. IfErr c.edn_text.result (IsFaultIn n (after_mark text)))
    (sym c.in-Edn.is ∙ c.in_ok-form.ensures.form begun start none)
    (c.edn_text.ensures.fault begun (begun_text begun c.pending.result.now c.in_ok-after-in-Edn.field-0 left
    (subst (λ p. prepend_known p left ≡ Some (after_mark text)) (sym c.pending.ensures) (c.in_ok-form.ensures.kept begun none))
    c.in_ok-after-in-Edn.ensures.begins))

pub returns-in-Json-clause-history : goal.returns-in-Json-clause-history
returns-in-Json-clause-history g c = λ text is.
    let none = c.in_ok-skip_mark.ensures.kept text c.new-buffer.ensures.start c.new-buffer.ensures.end
    (nothing_pending (pending_in c.new-buffer.result) (g.S.Read.remaining c.args.source.now) text c.new-buffer.ensures.pending is) in
    let begun = after_mark text in
    let start = c.in_ok-skip_mark.ensures.start ∙ c.new-buffer.ensures.start in
    subst (λ n. IfOk c.json_text.result (IsHistoryIn n (after_mark text)))
    (sym c.in-Json.is ∙ c.in_ok-form.ensures.form begun start none)
    (c.json_text.ensures.history begun (c.in_ok-form.ensures.start ∙ start) (c.in_ok-form.ensures.kept begun none))

pub returns-in-Json-clause-fault : goal.returns-in-Json-clause-fault
returns-in-Json-clause-fault g c = λ text is.
    let none = c.in_ok-skip_mark.ensures.kept text c.new-buffer.ensures.start c.new-buffer.ensures.end
    (nothing_pending (pending_in c.new-buffer.result) (g.S.Read.remaining c.args.source.now) text c.new-buffer.ensures.pending is) in
    let begun = after_mark text in
    let start = c.in_ok-skip_mark.ensures.start ∙ c.new-buffer.ensures.start in
    subst (λ n. IfErr c.json_text.result (IsFaultIn n (after_mark text)))
    (sym c.in-Json.is ∙ c.in_ok-form.ensures.form begun start none)
    (c.json_text.ensures.fault begun (c.in_ok-form.ensures.start ∙ start) (c.in_ok-form.ensures.kept begun none))

pub returns-in_err-skip_mark-clause-fault : goal.returns-in_err-skip_mark-clause-fault
returns-in_err-skip_mark-clause-fault g c = λ text is.
    let p = err_from_is_err_and c.from_residual.result c.from_residual.ensures.1 in
    rw p.1 (device_in (notation_in (after_mark text)) (after_mark text) p.0 (p.2 ∙ c.in_err-skip_mark.ensures.fault))

pub returns-in_err-form-clause-fault : goal.returns-in_err-form-clause-fault
returns-in_err-form-clause-fault g c = λ text is.
    let p = err_from_is_err_and c.from_residual-in_err-form.result c.from_residual-in_err-form.ensures.1 in
    rw p.1 (device_in (notation_in (after_mark text)) (after_mark text) p.0 (p.2 ∙ c.in_err-form.ensures.fault))

pub returns-in_ok-after-in-Edn-clause-device : goal.returns-in_ok-after-in-Edn-clause-device
returns-in_ok-after-in-Edn-clause-device g c =
    c.edn_text.ensures.device (begun_unfailed c.pending.result.now c.in_ok-after-in-Edn.field-0 c.in_ok-after-in-Edn.ensures.begins)
