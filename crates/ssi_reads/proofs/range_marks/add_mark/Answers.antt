use Rattle.std.proofs.Common.{rules, ◌≡◌, List, true, cond, Some, None, ap, ◌∙◌}
use Rattle.std.specs.BTreeMap.{get}
use Rattle.std.specs.Ordering.{is_eq}
use Rattle.std.specs.List.{list_any}
use Rattle.ssi_reads.specs.declared.span.Mark.{Mark}
use Rattle.ssi_reads.specs.Machinery.Prefixes.{prefix_cmp, mark_cmp}
use Rattle.ssi_reads.specs.Machinery.Ranged.{HasSameMarks}
use Rattle.ssi_reads.proofs.Maps.{on_err_from}
use Rattle.ssi_reads.proofs.RangedMarks.{marks_more, marks_same}
use Rattle.ssi_reads.proofs.range_marks.add_mark.Goals as goal

pub returns-in_err-insert-clause-refused : goal.returns-in_err-insert-clause-refused
returns-in_err-insert-clause-refused c =
    let all : HasSameMarks c.args.marks.now (c.get_mut.follows.lender c.insert.new.self) =
    λ q x. marks_same c.args.place.now.prefix c.args.marks.now (c.get_mut.follows.lender c.insert.new.self) (Some c.in-Some.set.now) (Some c.insert.new.self) (search rules)
    ((c.get_mut.follows.holds _).3 (search rules)).0 x (search rules) q in
    on_err_from c.from_residual.result _ all

pub returns-in-Some-clause-added : goal.returns-in-Some-clause-added
returns-in-Some-clause-added c =
    let mark : Mark = record { span = c.args.place.now.span; txn = c.args.txn } in
    marks_more c.args.place.now.prefix c.args.marks.now (c.get_mut.follows.lender c.insert.new.self) (Some c.in-Some.set.now) (Some c.insert.new.self) (search rules)
    ((c.get_mut.follows.holds _).3 (search rules)).0 mark c.in_ok-insert.ensures.updates.0

pub returns-clause-added : goal.returns-clause-added
returns-clause-added c =
    let none : c.get_mut.follows.lender-at-none ≡ c.args.marks.now = c.get_mut.follows.holds-at-none in
    let old : get prefix_cmp c.args.marks.now c.args.place.now.prefix ≡ None = search rules in
    let mark : Mark = record { span = c.args.place.now.span; txn = c.args.txn } in
    marks_more c.args.place.now.prefix c.args.marks.now c.insert-3.new.self None (Some c.insert-2.new.self) old
    (λ q. c.in_ok-insert-3.ensures.updates.0 q ∙
    ap (λ m. cond (is_eq (prefix_cmp c.args.place.now.prefix q)) (Some c.insert-2.new.self) (get prefix_cmp m q)) none) mark
    (λ x. c.in_ok-insert-2.ensures.updates.0 x ∙
    ap (λ (xs : List Mark). cond (is_eq (mark_cmp mark x)) true (list_any (λ y. is_eq (mark_cmp x y)) xs)) c.new-set.ensures.empty)
