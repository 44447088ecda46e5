use Rattle.std.proofs.Common.{◌∙◌, ap, refl, sym}
use Rattle.std.proofs.Math.Bool.{false≢true}
use Rattle.std.proofs.lemmas.Result.{IfOk-from_err}
use Rattle.std.specs.Result.{is_ok}
use Rattle.adya_keys.specs.Machinery.KeyTables.{keys_in}
use Rattle.adya_values.specs.Meaning.Histories.{Delete}
use Rattle.adya_values.proofs.PackedRows.{numbers_less}
use Rattle.adya_keys.proofs.Within.{found_key}
use Rattle.adya_values.proofs.PackedRows.{extends_keys}
use Rattle.adya_values.proofs.arena.Arena.keep_delete.Goals as goal

pub returns-in_err-key-clause-extends : goal.returns-in_err-key-clause-extends
returns-in_err-key-clause-extends c =
    extends_keys _ _ c.number.ensures.front c.number.ensures.bytes c.number.ensures.listings c.number.ensures.seen

pub returns-in_err-key-clause-row : goal.returns-in_err-key-clause-row
returns-in_err-key-clause-row c = IfOk-from_err c.from_residual.result _ c.from_residual.ensures.0

pub returns-in_err-key-clause-event : goal.returns-in_err-key-clause-event
returns-in_err-key-clause-event c = IfOk-from_err c.from_residual.result _ c.from_residual.ensures.0

pub returns-in_err-key-clause-succeeds : goal.returns-in_err-key-clause-succeeds
returns-in_err-key-clause-succeeds c room =
    let fits = c.number.ensures.succeeds (numbers_less _ _ 1 1 room.keys) in
    absurd (false≢true (sym (ap is_ok c.in_err-key.was) ∙ fits))

pub returns-clause-extends : goal.returns-clause-extends
returns-clause-extends c =
    extends_keys _ _ c.number.ensures.front c.number.ensures.bytes c.number.ensures.listings c.number.ensures.seen

pub returns-clause-row : goal.returns-clause-row
returns-clause-row c =
    (found_key (keys_in c.number.new.self.keys) c.in_ok-key.key c.args.key.now c.in_ok-key.ensures.number).there

pub returns-clause-event : goal.returns-clause-event
returns-clause-event c =
    ap (λ k. Delete c.args.txn k c.args.m) (found_key (keys_in c.number.new.self.keys) c.in_ok-key.key c.args.key.now c.in_ok-key.ensures.number).key

pub returns-clause-succeeds : goal.returns-clause-succeeds
returns-clause-succeeds c room = refl
