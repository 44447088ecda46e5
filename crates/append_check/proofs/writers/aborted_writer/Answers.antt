use Rattle.std.proofs.Common.{◌≡◌, Some, length, slice_get, subst, sym, ◌∙◌, refl, Contains}
use Rattle.std.proofs.lemmas.Option.{slice_get_read}
use Rattle.append_check.proofs.Seeing.{appended_at, outcome_at}
use Rattle.append_check.proofs.writers.aborted_writer.Goals as goal

pub returns-then-appends_in_vain : goal.returns-then-appends_in_vain
returns-then-appends_in_vain c =
    let ts = c.args.transactions.now in
    let i = c.transactions.place in
    let x = c.index-transactions-place.result in
    let found : slice_get ts i ≡ Some x = slice_get_read ts (length ts) i x refl c.transactions-test.true c.index-transactions-place.is in
    let may = c.appends_in_vain.ensures c.if-appends_in_vain.true in (
      outcome_at ts i x found ∙ may.0,
      subst (λ ys. Contains ys c.args.element) (sym (appended_at ts c.args.key i x found)) may.1,
    )
