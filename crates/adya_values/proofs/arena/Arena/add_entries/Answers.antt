use Rattle.std.proofs.Common.{◌≡◌, ◌∙◌, ◌++◌, ◌+◌, ◌-◌, ◌≤◌, ◌∷◌, [], append_assoc, append-nil, ap, arith, length, map, refl, subst, sym, take}
use Rattle.std.proofs.lemmas.List.{take_all}
use Rattle.std.proofs.Math.Bool.{false≢true}
use Rattle.std.specs.Result.{is_ok}
use Rattle.lemmas.proofs.Steps.{turn_at}
use Rattle.adya_values.specs.Mirror.Events.{entries_of}
use Rattle.adya_values.specs.Mirror.Refs.{view_entry}
use Rattle.adya_values.specs.Machinery.Packed.{entry_of_seen, CanSee}
use Rattle.adya_values.proofs.PackedRows.{extends_itself, extends_trans}
use Rattle.adya_values.proofs.arena.Arena.add_entries.Goals as goal

pub loop-j-init : goal.loop-j-init
loop-j-init c = record {
  extends = extends_itself c.args.self.now;
  listings = refl;
  entries = sym (append-nil (map (entry_of_seen c.args.self.now) c.args.self.now.seen.items));
  room = λ r. subst (CanSee c.args.self.now) (omega arith) r;
}

pub returns-in_err-add_entry-clause-extends : goal.returns-in_err-add_entry-clause-extends
returns-in_err-add_entry-clause-extends c = extends_trans _ _ _ c.loop-j.invariant.extends c.add_entry.ensures.extends

pub returns-in_err-add_entry-clause-listings : goal.returns-in_err-add_entry-clause-listings
returns-in_err-add_entry-clause-listings c = c.add_entry.ensures.listings ∙ c.loop-j.invariant.listings

pub returns-in_err-add_entry-clause-succeeds : goal.returns-in_err-add_entry-clause-succeeds
returns-in_err-add_entry-clause-succeeds c room =
    let es = entries_of c.args.entries.now in
    let j = c.loop-j.j in
    let turn = turn_at es j (view_entry c.slices_at.result) c.slices_at.ensures in
    let more : length es - j ≡ length es - (j + 1) + 1 = omega (arith, turn.less) in
    let fits = c.add_entry.ensures.succeeds (length es - (j + 1)) (subst (CanSee c.loop-j.self) more (c.loop-j.invariant.room room)) in
    absurd (false≢true (sym (ap is_ok c.in_err-add_entry.was) ∙ fits.0))

pub loop-j-preserved : goal.loop-j-preserved
loop-j-preserved c =
    let es = entries_of c.args.entries.now in
    let a = c.args.self.now in
    let j = c.loop-j.j in
    let e = view_entry c.slices_at.result in
    let turn = turn_at es j e c.slices_at.ensures in
    let before = map (entry_of_seen a) a.seen.items in
    let more : length es - j ≡ length es - (j + 1) + 1 = omega (arith, turn.less) in
    record {
      extends = extends_trans _ _ _ c.loop-j.invariant.extends c.add_entry.ensures.extends;
      listings = c.add_entry.ensures.listings ∙ c.loop-j.invariant.listings;
      entries = c.in_ok-add_entry.ensures.entries ∙
          (ap (λ xs. xs ++ e ∷ []) c.loop-j.invariant.entries ∙
          (append_assoc before (take j es) (e ∷ []) ∙ ap (λ xs. before ++ xs) (sym turn.front)));
      room = λ r. (c.add_entry.ensures.succeeds (length es - (j + 1)) (subst (CanSee c.loop-j.self) more (c.loop-j.invariant.room r))).1;
    }

pub returns-clause-extends : goal.returns-clause-extends
returns-clause-extends c = c.loop-j.invariant.extends

pub returns-clause-listings : goal.returns-clause-listings
returns-clause-listings c = c.loop-j.invariant.listings

pub returns-clause-entries : goal.returns-clause-entries
returns-clause-entries c =
    let es = entries_of c.args.entries.now in
    let a = c.args.self.now in
    let past : length es ≤ c.loop-j.j = omega (arith, c.loop-j-test.false, c.len-j-end.ensures) in
    c.loop-j.invariant.entries ∙ ap (λ xs. map (entry_of_seen a) a.seen.items ++ xs) (take_all c.loop-j.j es past)
