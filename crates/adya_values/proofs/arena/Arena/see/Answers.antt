use Rattle.std.proofs.Common.{◌≡◌, ◌∙◌, ap, arith, refl, subst, sym, true, vec_capacity, vec_len}
use Rattle.std.proofs.Math.Bool.{false≢true}
use Rattle.std.proofs.lemmas.Bool.{and_from}
use Rattle.std.proofs.lemmas.Result.{IfOk-from_err}
use Rattle.std.specs.Result.{is_ok}
use Rattle.adya_keys.specs.Machinery.KeyTables.{keys_in}
use Rattle.adya_values.specs.Machinery.Seen.{is_content}
use Rattle.adya_values.proofs.PackedRows.{numbers_less}
use Rattle.adya_keys.proofs.Within.{IsKeyAt, found_key}
use Rattle.adya_values.proofs.PackedRows.{extends_bytes, extends_keys, extends_trans}
use Rattle.adya_values.proofs.arena.Arena.see.Goals as goal

pub returns-in_err-key-clause-extends : goal.returns-in_err-key-clause-extends
returns-in_err-key-clause-extends c =
    extends_keys _ _ c.number.ensures.front c.number.ensures.bytes c.number.ensures.listings c.number.ensures.seen

pub returns-in_err-key-clause-listings : goal.returns-in_err-key-clause-listings
returns-in_err-key-clause-listings c = c.number.ensures.listings

pub returns-in_err-key-clause-seen : goal.returns-in_err-key-clause-seen
returns-in_err-key-clause-seen c = c.number.ensures.seen

pub returns-in_err-key-clause-there : goal.returns-in_err-key-clause-there
returns-in_err-key-clause-there c = IfOk-from_err c.from_residual.result _ c.from_residual.ensures.0

pub returns-in_err-key-clause-entry : goal.returns-in_err-key-clause-entry
returns-in_err-key-clause-entry c = IfOk-from_err c.from_residual.result _ c.from_residual.ensures.0

pub returns-in_err-key-clause-succeeds : goal.returns-in_err-key-clause-succeeds
returns-in_err-key-clause-succeeds c n room =
    let fits = c.number.ensures.succeeds (numbers_less _ _ n 1 room.keys) in
    absurd (false≢true (sym (ap is_ok c.in_err-key.was) ∙ fits))

pub returns-in_err-at-clause-extends : goal.returns-in_err-at-clause-extends
returns-in_err-at-clause-extends c =
    extends_trans c.args.self.now c.number.new.self c.keep_content.new.self (extends_keys _ _ c.number.ensures.front c.number.ensures.bytes c.number.ensures.listings c.number.ensures.seen)
    (extends_bytes _ _ c.keep_content.ensures.keys c.keep_content.ensures.front c.keep_content.ensures.listings c.keep_content.ensures.seen)

pub returns-in_err-at-clause-listings : goal.returns-in_err-at-clause-listings
returns-in_err-at-clause-listings c = c.keep_content.ensures.listings ∙ c.number.ensures.listings

pub returns-in_err-at-clause-seen : goal.returns-in_err-at-clause-seen
returns-in_err-at-clause-seen c = c.keep_content.ensures.seen ∙ c.number.ensures.seen

pub returns-in_err-at-clause-there : goal.returns-in_err-at-clause-there
returns-in_err-at-clause-there c = IfOk-from_err c.from_residual-in_err-at.result _ c.from_residual-in_err-at.ensures.0

pub returns-in_err-at-clause-entry : goal.returns-in_err-at-clause-entry
returns-in_err-at-clause-entry c = IfOk-from_err c.from_residual-in_err-at.result _ c.from_residual-in_err-at.ensures.0

pub returns-in_err-at-clause-succeeds : goal.returns-in_err-at-clause-succeeds
returns-in_err-at-clause-succeeds c n room =
    let bytes = room.bytes in
    let fits = c.keep_content.ensures.succeeds (omega (arith, bytes, ap vec_len c.number.ensures.bytes, ap vec_capacity c.number.ensures.bytes)) in
    absurd (false≢true (sym (ap is_ok c.in_err-at.was) ∙ fits))

key_there : (c : goal.After-new) → IsKeyAt (keys_in c.keep_content.new.self.keys) c.in_ok-key.key c.args.entry.now.version.key.now
key_there c =
    subst (λ s. IsKeyAt (keys_in s) c.in_ok-key.key c.args.entry.now.version.key.now) (sym c.keep_content.ensures.keys)
    (found_key (keys_in c.number.new.self.keys) c.in_ok-key.key c.args.entry.now.version.key.now c.in_ok-key.ensures.number)

pub returns-clause-extends : goal.returns-clause-extends
returns-clause-extends c =
    extends_trans c.args.self.now c.number.new.self c.keep_content.new.self (extends_keys _ _ c.number.ensures.front c.number.ensures.bytes c.number.ensures.listings c.number.ensures.seen)
    (extends_bytes _ _ c.keep_content.ensures.keys c.keep_content.ensures.front c.keep_content.ensures.listings c.keep_content.ensures.seen)

pub returns-clause-listings : goal.returns-clause-listings
returns-clause-listings c = c.keep_content.ensures.listings ∙ c.number.ensures.listings

pub returns-clause-seen : goal.returns-clause-seen
returns-clause-seen c = c.keep_content.ensures.seen ∙ c.number.ensures.seen

pub returns-clause-there : goal.returns-clause-there
returns-clause-there c =
    let bs = c.keep_content.new.self.bytes.items in
    and_from _ _ (key_there c).there (subst (λ n. is_content bs n c.in_ok-at.len ≡ true) (sym c.new.ensures) c.in_ok-at.ensures.kept)

pub returns-clause-entry : goal.returns-clause-entry
returns-clause-entry c =
    let bs = c.keep_content.new.self.bytes.items in
    rw ((key_there c).key, c.writer.ensures, c.modification.ensures, c.new.ensures, c.in_ok-at.ensures.content) refl

pub returns-clause-succeeds : goal.returns-clause-succeeds
returns-clause-succeeds c n room = (
  refl,
  let bytes = room.bytes in
      let seen = room.seen in
      record {
        keys = rw (c.keep_content.ensures.keys, c.keep_content.ensures.places) (c.number.ensures.room n room.keys);
        bytes = omega (arith, bytes, ap vec_len c.number.ensures.bytes, ap vec_capacity c.number.ensures.bytes, c.keep_content.ensures.len, c.keep_content.ensures.capacity);
        seen = omega (arith, seen, ap vec_len c.number.ensures.seen, ap vec_capacity c.number.ensures.seen, ap vec_len c.keep_content.ensures.seen, ap vec_capacity c.keep_content.ensures.seen);
      },
)
