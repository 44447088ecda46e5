use Rattle.std.proofs.Common.{ap, sym, ◌∙◌}
use Rattle.std.proofs.lemmas.Bool.{eq-eqb, ne_eqb, cond-true, cond-false}
use Rattle.ssi_reads.specs.Machinery.Indexed.{key_in}
use Rattle.ssi_reads.proofs.Numbers.{is_eq-nat_cmp}
use Rattle.ssi_reads.proofs.KeyedMarks.{forget_one}
use Rattle.ssi_reads.proofs.key_marks.KeyMarks.forget.Goals as goal

pub returns : goal.returns
returns c u k =
    let t = c.args.txn in
    forget_one t u _ _ _ _
    (λ e. ap (λ o. key_in o k) (c.remove.ensures.updates.0 u ∙ cond-true _ _ _ (is_eq-nat_cmp t u ∙ eq-eqb t u (sym e))))
    (λ ne. c.remove_all.ensures k u ne)
    (λ ne. ap (λ o. key_in o k) (c.remove.ensures.updates.0 u ∙ cond-false _ _ _ (is_eq-nat_cmp t u ∙ ne_eqb t u (λ e. ne (sym e)))))
