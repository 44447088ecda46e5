use Rattle.std.proofs.Common.{◌∙◌, length, refl, sym}
use Rattle.std.proofs.lemmas.Bool.{eqb-false, eqb-true, ltb-false, ltb-true}
use Rattle.std.proofs.lemmas.Option.{none-some, slice_get_past, slice_get_read}
use Rattle.adya_terms.proofs.Compared.{when_other, when_same}
use Rattle.adya_terms.proofs.line_writers.is_at.Goals as goal

pub returns-in-Some : goal.returns-in-Some
returns-in-Some c =
    let ts = c.args.writers.now in
    let p = c.args.place in
    let u = c.in-Some.writer.now in
    let read = c.in-Some.ensures.lookup in
    let found = slice_get_read ts (length ts) p u refl (ltb-true p (length ts) (sym read.0)) read.1 in
    record {
      yes = when_same _ u c.args.txn found c.eq.result (λ is. eqb-true _ _ (sym c.eq.ensures ∙ is));
      no = when_other _ u c.args.txn found c.eq.result (λ is. eqb-false _ _ (sym c.eq.ensures ∙ is));
    }

pub returns-in-None : goal.returns-in-None
returns-in-None c =
    let ts = c.args.writers.now in
    let p = c.args.place in
    record {
      yes = tt;
      no = λ same. none-some _ (sym (slice_get_past ts p (ltb-false p (length ts) (sym c.in-None.ensures.lookup.0))) ∙ same);
    }
