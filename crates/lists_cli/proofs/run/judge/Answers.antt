use Rattle.std.proofs.Common.{◌≡◌, sym, ◌∙◌, ap, arith, subst}
use Rattle.std.proofs.lemmas.Result.{err_from_is_err_and}
use Rattle.append_text.specs.Meaning.Notations.{after_mark}
use Rattle.lists_cli.specs.Meaning.Answers.{notation_for}
use Rattle.append_check.specs.Meaning.Verdicts.{history_of, IsRight}
use Rattle.lists_verdicts.specs.Meaning.Status.{answer_of}
use Rattle.lists_cli.specs.Meaning.Answers.{HasOrder, IsWritten, Means, history_in}
use Rattle.lists_cli.specs.Clauses.Faults.{order_in}
use Rattle.lists_cli.specs.Clauses.Faults.{IsReading, IsRefusal}
use Rattle.lists_cli.proofs.Blamed.{reading, refused, same_fault, source_blamed}
use Rattle.lists_cli.proofs.Right.{means}
use Rattle.lists_cli.proofs.run.judge.Goals as goal

pub returns-clause-answered : goal.returns-clause-answered
returns-clause-answered g c text known =
    let h = c.in_ok-history.history in
    let v = c.in_ok-findings.findings.verdict in
    let e : c.of-answer.result ≡ answer_of h.transactions.items v =
    c.of-answer.ensures ∙ ap (λ ts. answer_of ts v) c.as_slice-2.ensures.value in
    let right : IsRight (history_in h) v =
    subst (λ ts. IsRight (history_of ts) v) c.as_slice.ensures.value c.in_ok-findings.ensures.right in
    record {
      history = h;
      says = c.in_ok-history.ensures.history text known;
      order = order_in v;
      means = subst (λ a. Means a (order_in v) h) (sym e) (means h v right);
      has_order = subst (λ a. HasOrder g.O.Write.contents a h.labels.items (order_in v) c.args.order.now c.write_order.new.order) (sym e)
          c.in_ok-write_order.ensures.order;
      written = λ words. subst (λ a. IsWritten g.W.Write.contents a c.args.out.now c.tell.new.out) (sym e) (c.in_ok-tell.ensures.words words);
      rests_on = c.of-basis.ensures;
    }

pub returns-then-is_many-clause-refused : goal.returns-then-is_many-clause-refused
returns-then-is_many-clause-refused g c text known =
    (c.in_ok-history.history, c.in_ok-history.ensures.history text known, omega (arith, c.if-is_many.true))

pub returns-in_err-history-clause-refused : goal.returns-in_err-history-clause-refused
returns-in_err-history-clause-refused g c text known =
    let n = notation_for c.args.form (after_mark text) in
    let e = c.in_err-history.field-0.0 in
    let p = err_from_is_err_and c.from_residual.result c.from_residual.ensures.1 in
    rw p.1 (subst (IsRefusal n (after_mark text)) (sym p.2) (refused n (after_mark text) e (c.in_err-history.ensures.fault text known)))

pub returns-in_err-history-clause-read_fault : goal.returns-in_err-history-clause-read_fault
returns-in_err-history-clause-read_fault g c =
    let p = err_from_is_err_and c.from_residual.result c.from_residual.ensures.1 in
    rw p.1 (λ is. source_blamed (g.S.Source.is_failed c.read.new.source) c.in_err-history.field-0.0
    c.in_err-history.ensures.device (sym p.2 ∙ same_fault _ _ _ is))

pub returns-in_err-history-clause-order_fault : goal.returns-in_err-history-clause-order_fault
returns-in_err-history-clause-order_fault g c =
    let p = err_from_is_err_and c.from_residual.result c.from_residual.ensures.1 in
    rw p.1 (λ is. absurd (subst IsReading (sym p.2 ∙ same_fault _ _ _ is) (reading c.in_err-history.field-0.0)))

pub returns-in_err-history-clause-drawing_fault : goal.returns-in_err-history-clause-drawing_fault
returns-in_err-history-clause-drawing_fault g c =
    let p = err_from_is_err_and c.from_residual.result c.from_residual.ensures.1 in
    rw p.1 (λ is. absurd (subst IsReading (sym p.2 ∙ same_fault _ _ _ is) (reading c.in_err-history.field-0.0)))

pub returns-in_err-history-clause-write_fault : goal.returns-in_err-history-clause-write_fault
returns-in_err-history-clause-write_fault g c =
    let p = err_from_is_err_and c.from_residual.result c.from_residual.ensures.1 in
    rw p.1 (λ is. absurd (subst IsReading (sym p.2 ∙ same_fault _ _ _ is) (reading c.in_err-history.field-0.0)))
