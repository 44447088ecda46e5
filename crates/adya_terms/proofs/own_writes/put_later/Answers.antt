use Rattle.std.proofs.Common.{rules, ◌≡◌, cond, Some, None, ap, ◌∙◌, refl}
use Rattle.std.specs.BTreeMap.{get}
use Rattle.std.specs.Ordering.{nat_cmp, is_eq}
use Rattle.std.specs.Cmp.Lexicographic.{slice_cmp}
use Rattle.adya_terms.proofs.OwnWrites.{on_err, place_more, place_same}
use Rattle.adya_terms.proofs.own_writes.put_later.Goals as goal

pub returns-in-Some-clause-put : goal.returns-in-Some-clause-put
returns-in-Some-clause-put c =
    place_more c.args.txn c.args.places.now (c.get_mut.follows.lender c.insert.new.self) (Some c.in-Some.own.now) (Some c.insert.new.self) c.args.at c.args.key
    (search rules) ((c.get_mut.follows.holds _).3 (search rules)).0 c.in_ok-insert.ensures.updates.0

pub returns-in_err-insert-clause-refused : goal.returns-in_err-insert-clause-refused
returns-in_err-insert-clause-refused c =
    on_err c.from_residual.result
    (place_same c.args.places.now (c.get_mut.follows.lender c.insert.new.self) c.args.txn (Some c.in-Some.own.now) (Some c.insert.new.self)
    (search rules) ((c.get_mut.follows.holds _).3 (search rules)).0 (λ k. rw c.in_err-insert.ensures.err refl))

pub returns-clause-put : goal.returns-clause-put
returns-clause-put c =
    let none : c.get_mut.follows.lender-at-none ≡ c.args.places.now = c.get_mut.follows.holds-at-none in
    let old : get nat_cmp c.args.places.now c.args.txn ≡ None = search rules in
    place_more c.args.txn c.args.places.now c.insert-3.new.self None (Some c.insert-2.new.self) c.args.at c.args.key old
    (λ u. c.in_ok-insert-3.ensures.updates.0 u ∙
    ap (λ m. cond (is_eq (nat_cmp c.args.txn u)) (Some c.insert-2.new.self) (get nat_cmp m u)) none)
    (λ k. c.in_ok-insert-2.ensures.updates.0 k ∙
    ap (λ o. cond (is_eq (slice_cmp nat_cmp c.args.key k)) (Some c.args.at) o) (search rules))
