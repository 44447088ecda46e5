use Rattle.std.proofs.Common.{◌∙◌, ◌<◌, ap, subst, sym, vec_capacity, vec_len}
use Rattle.std.proofs.Math.Bool.{false≢true}
use Rattle.std.proofs.lemmas.Result.{IfOk-from_err, IfOk-weaker}
use Rattle.std.specs.Result.{is_ok}
use Rattle.adya_values.proofs.PackedRows.{extends_trans}
use Rattle.adya_values.proofs.arena.Arena.keep_scan.Goals as goal

pub returns-in_err-listing-clause-extends : goal.returns-in_err-listing-clause-extends
returns-in_err-listing-clause-extends c = c.list.ensures.extends

pub returns-in_err-listing-clause-row : goal.returns-in_err-listing-clause-row
returns-in_err-listing-clause-row c = IfOk-from_err c.from_residual.result _ c.from_residual.ensures.0

pub returns-in_err-listing-clause-event : goal.returns-in_err-listing-clause-event
returns-in_err-listing-clause-event c = IfOk-from_err c.from_residual.result _ c.from_residual.ensures.0

pub returns-in_err-listing-clause-succeeds : goal.returns-in_err-listing-clause-succeeds
returns-in_err-listing-clause-succeeds c room =
    absurd (false≢true (sym (ap is_ok c.in_err-listing.was) ∙ c.list.ensures.succeeds room))

pub returns-clause-extends : goal.returns-clause-extends
returns-clause-extends c = extends_trans _ _ _ c.list.ensures.extends c.scan_row.ensures.extends

pub returns-clause-row : goal.returns-clause-row
returns-clause-row c = c.scan_row.ensures.row

pub returns-clause-event : goal.returns-clause-event
returns-clause-event c =
    IfOk-weaker c.scan_row.result _ _ (λ r p. p ∙ c.in_ok-listing.ensures.scan c.args.txn) c.scan_row.ensures.event

pub returns-clause-succeeds : goal.returns-clause-succeeds
returns-clause-succeeds c room =
    c.scan_row.ensures.succeeds (subst (λ v. vec_len v < vec_capacity v) (sym c.list.ensures.listings) room.listings)
