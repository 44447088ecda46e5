use Rattle.std.proofs.Common.{rules, ◌≡◌, ◌||◌, cond, Some, None, ap, ◌∙◌}
use Rattle.std.specs.List.{list_any}
use Rattle.std.specs.BTreeMap.{get}
use Rattle.std.specs.Ordering.{nat_cmp, is_eq}
use Rattle.ssi_reads.specs.declared.place.Place.{Place}
use Rattle.ssi_reads.specs.Machinery.Prefixes.{place_cmp}
use Rattle.ssi_reads.specs.Machinery.Ranged.{HasSamePlaces}
use Rattle.ssi_reads.proofs.Compared.{place_itself, same_place}
use Rattle.ssi_reads.proofs.Maps.{on_err_from}
use Rattle.ssi_reads.proofs.RangedMarks.{any_taken, places_more, places_same}
use Rattle.ssi_reads.proofs.range_marks.add_place.Goals as goal

pub returns-in_err-insert-clause-refused : goal.returns-in_err-insert-clause-refused
returns-in_err-insert-clause-refused c =
    let all : HasSamePlaces c.args.places.now (c.get_mut.follows.lender c.insert.new.self) =
    places_same c.args.txn c.args.places.now (c.get_mut.follows.lender c.insert.new.self) (Some c.in-Some.set.now) (Some c.insert.new.self) (search rules)
    ((c.get_mut.follows.holds _).3 (search rules)).0 (search rules) in
    on_err_from c.from_residual.result _ all

pub returns-in-Some-clause-added : goal.returns-in-Some-clause-added
returns-in-Some-clause-added c =
    places_more c.args.txn c.args.places.now (c.get_mut.follows.lender c.insert.new.self) (Some c.in-Some.set.now) (Some c.insert.new.self) (search rules)
    ((c.get_mut.follows.holds _).3 (search rules)).0 (record { prefix = c.args.prefix; span = c.args.span })
    (any_taken place_cmp place_itself same_place (record { prefix = c.args.prefix; span = c.args.span }) c.in-Some.set.now c.insert.new.self c.in_ok-insert.ensures.updates.0)

pub returns-clause-added : goal.returns-clause-added
returns-clause-added c =
    let none : c.get_mut.follows.lender-at-none ≡ c.args.places.now = c.get_mut.follows.holds-at-none in
    let old : get nat_cmp c.args.places.now c.args.txn ≡ None = search rules in
    let place : Place = record { prefix = c.args.prefix; span = c.args.span } in
    places_more c.args.txn c.args.places.now c.insert-3.new.self None (Some c.insert-2.new.self) old
    (λ u. c.in_ok-insert-3.ensures.updates.0 u ∙
    ap (λ m. cond (is_eq (nat_cmp c.args.txn u)) (Some c.insert-2.new.self) (get nat_cmp m u)) none) place
    (λ f. any_taken place_cmp place_itself same_place place c.new-set.result c.insert-2.new.self c.in_ok-insert-2.ensures.updates.0 f ∙
    ap (λ ps. f place || list_any f ps) c.new-set.ensures.empty)
