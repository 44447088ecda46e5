use Rattle.std.proofs.Common.{◌∙◌, ◌++◌, ◌∷◌, [], ap, arith, map, refl, sym, vec_capacity, vec_len}
use Rattle.std.proofs.Math.Bool.{false≢true}
use Rattle.std.proofs.lemmas.Result.{IfOk-from_err}
use Rattle.std.specs.List.{list_all}
use Rattle.std.specs.Result.{is_ok}
use Rattle.adya_keys.specs.Machinery.KeyTables.{keys_in}
use Rattle.std.proofs.lemmas.List.{map-append}
use Rattle.adya_values.specs.Machinery.Packed.{entry_of_seen, is_seen_of}
use Rattle.adya_values.proofs.PackedParts.{same_entries_in}
use Rattle.adya_keys.proofs.Within.{front_same, front_trans}
use Rattle.adya_values.proofs.PackedRows.{all_with}
use Rattle.adya_values.proofs.arena.Arena.add_entry.Goals as goal

pub returns-in_err-seen-clause-extends : goal.returns-in_err-seen-clause-extends
returns-in_err-seen-clause-extends c = c.see.ensures.extends

pub returns-in_err-seen-clause-listings : goal.returns-in_err-seen-clause-listings
returns-in_err-seen-clause-listings c = c.see.ensures.listings

pub returns-in_err-seen-clause-entries : goal.returns-in_err-seen-clause-entries
returns-in_err-seen-clause-entries c = IfOk-from_err c.from_residual.result _ c.from_residual.ensures.0

pub returns-in_err-seen-clause-succeeds : goal.returns-in_err-seen-clause-succeeds
returns-in_err-seen-clause-succeeds c n room =
    absurd (false≢true (sym (ap is_ok c.in_err-seen.was) ∙ (c.see.ensures.succeeds n room).0))

pub invariant_of-self : goal.invariant_of-self
invariant_of-self c =
    let b = c.see.new.self in
    record {
      there = ap (list_all (is_seen_of b)) c.push.ensures.items ∙
          all_with (is_seen_of b) b.seen.items c.in_ok-seen.seen (is_ok c.push.result) b.there c.in_ok-seen.ensures.there;
    }

pub returns-in_err-push-clause-extends : goal.returns-in_err-push-clause-extends
returns-in_err-push-clause-extends c = record {
  keys = c.see.ensures.extends.keys;
  bytes = c.see.ensures.extends.bytes;
  listings = c.see.ensures.extends.listings;
  seen = front_trans _ _ _ c.see.ensures.extends.seen (front_same _ _ c.in_err-push.ensures.items);
}

pub returns-in_err-push-clause-listings : goal.returns-in_err-push-clause-listings
returns-in_err-push-clause-listings c = c.see.ensures.listings

pub returns-in_err-push-clause-entries : goal.returns-in_err-push-clause-entries
returns-in_err-push-clause-entries c = IfOk-from_err c.from_residual-in_err-push.result _ c.from_residual-in_err-push.ensures.0

pub returns-in_err-push-clause-succeeds : goal.returns-in_err-push-clause-succeeds
returns-in_err-push-clause-succeeds c n room =
    let seen = room.seen in
    let fits = c.push.ensures.succeeds (omega (arith, seen, ap vec_len c.see.ensures.seen, ap vec_capacity c.see.ensures.seen)) in
    absurd (false≢true (sym (ap is_ok c.in_err-push.was) ∙ fits))

pub returns-clause-extends : goal.returns-clause-extends
returns-clause-extends c = record {
  keys = c.see.ensures.extends.keys;
  bytes = c.see.ensures.extends.bytes;
  listings = c.see.ensures.extends.listings;
  seen = front_trans _ _ _ c.see.ensures.extends.seen (c.in_ok-seen.seen ∷ [], c.in_ok-push.ensures.items);
}

pub returns-clause-listings : goal.returns-clause-listings
returns-clause-listings c = c.see.ensures.listings

pub returns-clause-entries : goal.returns-clause-entries
returns-clause-entries c =
    let a = c.args.self.now in
    let b = c.see.new.self in
    let s = c.in_ok-seen.seen in
    let before = map (entry_of_seen a) a.seen.items in
    ap (map (entry_of_seen b)) (c.in_ok-push.ensures.items ∙ ap (λ v. v.items ++ s ∷ []) c.see.ensures.seen) ∙
    (map-append (entry_of_seen b) a.seen.items (s ∷ []) ∙
    (ap (λ es. es ++ entry_of_seen b s ∷ [])
    (same_entries_in (keys_in a.keys) (keys_in b.keys) a.bytes.items b.bytes.items c.see.ensures.extends.keys c.see.ensures.extends.bytes a.seen.items a.there) ∙
    ap (λ e. before ++ e ∷ []) c.in_ok-seen.ensures.entry))

pub returns-clause-succeeds : goal.returns-clause-succeeds
returns-clause-succeeds c n room =
    let left = (c.see.ensures.succeeds n room).1 in (
      refl,
      record {
        keys = left.keys;
        bytes = left.bytes;
        seen =
            omega (arith, room.seen, ap vec_len c.see.ensures.seen, ap vec_capacity c.see.ensures.seen, c.in_ok-push.ensures.len, c.push.ensures.capacity);
      },
    )
