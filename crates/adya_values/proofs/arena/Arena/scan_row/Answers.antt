use Rattle.std.proofs.Common.{◌≡◌, ◌∙◌, ◌++◌, ◌∷◌, [], Some, ap, length, map, refl, slice_get, sym}
use Rattle.std.proofs.Math.Bool.{false≢true}
use Rattle.std.proofs.lemmas.Result.{IfOk-from_err}
use Rattle.std.specs.Result.{is_ok}
use Rattle.adya_keys.specs.Machinery.KeyTables.{keys_in}
use Rattle.adya_values.specs.Machinery.Packed.{entry_of_seen, is_listing, scan_in}
use Rattle.adya_keys.proofs.Within.{front_same, slice_get_end}
use Rattle.adya_values.proofs.PackedRows.{extends_itself}
use Rattle.adya_values.proofs.arena.Arena.scan_row.Goals as goal

pub returns-then-listing-clause-extends : goal.returns-then-listing-clause-extends
returns-then-listing-clause-extends c = extends_itself c.args.self.now

pub returns-then-listing-clause-row : goal.returns-then-listing-clause-row
returns-then-listing-clause-row c = c.requires

pub returns-then-listing-clause-event : goal.returns-then-listing-clause-event
returns-then-listing-clause-event c = refl

pub returns-then-listing-clause-succeeds : goal.returns-then-listing-clause-succeeds
returns-then-listing-clause-succeeds c room = refl

pub invariant_of-self : goal.invariant_of-self
invariant_of-self c = record { there = c.args.self.now.there }

pub returns-in_err-push-clause-extends : goal.returns-in_err-push-clause-extends
returns-in_err-push-clause-extends c = record {
  keys = front_same _ _ refl;
  bytes = front_same _ _ refl;
  listings = front_same _ _ c.in_err-push.ensures.items;
  seen = front_same _ _ refl;
}

pub returns-in_err-push-clause-row : goal.returns-in_err-push-clause-row
returns-in_err-push-clause-row c = IfOk-from_err c.from_residual.result _ c.from_residual.ensures.0

pub returns-in_err-push-clause-event : goal.returns-in_err-push-clause-event
returns-in_err-push-clause-event c = IfOk-from_err c.from_residual.result _ c.from_residual.ensures.0

pub returns-in_err-push-clause-succeeds : goal.returns-in_err-push-clause-succeeds
returns-in_err-push-clause-succeeds c room =
    absurd (false≢true (sym (ap is_ok c.in_err-push.was) ∙ c.push.ensures.succeeds room))

found : (c : goal.In_ok-push) → slice_get c.push.new.self.items c.len-place.result ≡ Some c.args.listing
found c =
    let ls = c.args.self.now.listings in
    ap (λ xs. slice_get xs c.len-place.result) c.in_ok-push.ensures.items ∙
    (ap (slice_get (ls.items ++ c.args.listing ∷ [])) (c.len-place.ensures ∙ ls.ok.0) ∙ slice_get_end ls.items c.args.listing)

pub returns-clause-extends : goal.returns-clause-extends
returns-clause-extends c = record {
  keys = front_same _ _ refl;
  bytes = front_same _ _ refl;
  listings = (c.args.listing ∷ [], c.in_ok-push.ensures.items);
  seen = front_same _ _ refl;
}

pub returns-clause-row : goal.returns-clause-row
returns-clause-row c =
    let a = c.args.self.now in
    ap (is_listing (length (keys_in a.keys)) (length a.seen.items)) (found c) ∙ c.requires

pub returns-clause-event : goal.returns-clause-event
returns-clause-event c =
    let a = c.args.self.now in
    ap (scan_in (keys_in a.keys) (map (entry_of_seen a) a.seen.items) c.args.txn) (found c)

pub returns-clause-succeeds : goal.returns-clause-succeeds
returns-clause-succeeds c room = refl
