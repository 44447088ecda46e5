use Rattle.std.proofs.Common.{◌≡◌, Some, length, slice_get, subst, sym, ◌∙◌, refl, Contains}
use Rattle.std.proofs.lemmas.Option.{slice_get_read}
use Rattle.append_check.proofs.Seeing.{own_at, outcome_at}
use Rattle.append_check.proofs.writers.committed_writer.Goals as goal

pub returns-then-appends_for_good : goal.returns-then-appends_for_good
returns-then-appends_for_good c =
    let ts = c.args.transactions.now in
    let i = c.transactions.place in
    let x = c.index-transactions-place.result in
    let found : slice_get ts i ≡ Some x = slice_get_read ts (length ts) i x refl c.transactions-test.true c.index-transactions-place.is in
    let may = c.appends_for_good.ensures c.if-appends_for_good.true in (
      outcome_at ts i x found ∙ may.0,
      subst (λ ys. Contains ys c.args.element) (sym (own_at ts c.args.key i x found)) may.1,
    )
