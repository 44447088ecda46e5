use Rattle.std.proofs.Common.{◌∙◌, length, ap, arith, refl, sym, subst, vec_capacity, vec_len}
use Rattle.adya_keys.specs.Machinery.KeyTables.{keys_in}
use Rattle.std.proofs.Math.Bool.{false≢true}
use Rattle.std.proofs.lemmas.Bool.{and_from}
use Rattle.std.proofs.lemmas.Result.{IfOk-from_err}
use Rattle.std.specs.Result.{is_ok}
use Rattle.adya_values.specs.Meaning.Histories.{Write}
use Rattle.adya_values.specs.Machinery.Seen.{IsKept}
use Rattle.adya_keys.specs.Machinery.Within.{part}
use Rattle.adya_values.proofs.PackedRows.{numbers_less}
use Rattle.adya_keys.proofs.Within.{IsKeyAt, found_key}
use Rattle.adya_values.proofs.PackedRows.{extends_bytes, extends_keys, extends_trans}
use Rattle.adya_values.proofs.arena.Arena.keep_write.Goals as goal

pub returns-in_err-key-clause-extends : goal.returns-in_err-key-clause-extends
returns-in_err-key-clause-extends c =
    extends_keys _ _ c.number.ensures.front c.number.ensures.bytes c.number.ensures.listings c.number.ensures.seen

pub returns-in_err-key-clause-row : goal.returns-in_err-key-clause-row
returns-in_err-key-clause-row c = IfOk-from_err c.from_residual.result _ c.from_residual.ensures.0

pub returns-in_err-key-clause-event : goal.returns-in_err-key-clause-event
returns-in_err-key-clause-event c = IfOk-from_err c.from_residual.result _ c.from_residual.ensures.0

pub returns-in_err-key-clause-succeeds : goal.returns-in_err-key-clause-succeeds
returns-in_err-key-clause-succeeds c room =
    let fits = c.number.ensures.succeeds (numbers_less _ _ 1 1 room.keys) in
    absurd (false≢true (sym (ap is_ok c.in_err-key.was) ∙ fits))

pub returns-in_err-at-clause-extends : goal.returns-in_err-at-clause-extends
returns-in_err-at-clause-extends c =
    extends_trans c.args.self.now c.number.new.self c.add_value.new.self
    (extends_keys _ _ c.number.ensures.front c.number.ensures.bytes c.number.ensures.listings c.number.ensures.seen)
    (extends_bytes _ _ c.add_value.ensures.keys c.add_value.ensures.front c.add_value.ensures.listings c.add_value.ensures.seen)

pub returns-in_err-at-clause-row : goal.returns-in_err-at-clause-row
returns-in_err-at-clause-row c = IfOk-from_err c.from_residual-in_err-at.result _ c.from_residual-in_err-at.ensures.0

pub returns-in_err-at-clause-event : goal.returns-in_err-at-clause-event
returns-in_err-at-clause-event c = IfOk-from_err c.from_residual-in_err-at.result _ c.from_residual-in_err-at.ensures.0

pub returns-in_err-at-clause-succeeds : goal.returns-in_err-at-clause-succeeds
returns-in_err-at-clause-succeeds c room =
    let bytes = room.bytes in
    let fits = c.add_value.ensures.succeeds (omega (arith, bytes, ap vec_len c.number.ensures.bytes, ap vec_capacity c.number.ensures.bytes)) in
    absurd (false≢true (sym (ap is_ok c.in_err-at.was) ∙ fits))

key_there : (c : goal.In_ok-at) → IsKeyAt (keys_in c.add_value.new.self.keys) c.in_ok-key.key c.args.key.now
key_there c =
    subst (λ s. IsKeyAt (keys_in s) c.in_ok-key.key c.args.key.now) (sym c.add_value.ensures.keys)
    (found_key (keys_in c.number.new.self.keys) c.in_ok-key.key c.args.key.now c.in_ok-key.ensures.number)

value_there : (c : goal.In_ok-at) → IsKept c.add_value.new.self.bytes.items c.args.value.now c.in_ok-at.at (length c.args.value.now)
value_there c = c.in_ok-at.ensures.kept

pub returns-clause-extends : goal.returns-clause-extends
returns-clause-extends c =
    extends_trans c.args.self.now c.number.new.self c.add_value.new.self
    (extends_keys _ _ c.number.ensures.front c.number.ensures.bytes c.number.ensures.listings c.number.ensures.seen)
    (extends_bytes _ _ c.add_value.ensures.keys c.add_value.ensures.front c.add_value.ensures.listings c.add_value.ensures.seen)

pub returns-clause-row : goal.returns-clause-row
returns-clause-row c = and_from _ _ (key_there c).there (value_there c).there

pub returns-clause-event : goal.returns-clause-event
returns-clause-event c =
    ap (λ k. Write c.args.txn k c.args.m (part c.in_ok-at.at (length c.args.value.now) c.add_value.new.self.bytes.items)) (key_there c).key ∙
    ap (λ v. Write c.args.txn c.args.key.now c.args.m v) (value_there c).value

pub returns-clause-succeeds : goal.returns-clause-succeeds
returns-clause-succeeds c room = refl
