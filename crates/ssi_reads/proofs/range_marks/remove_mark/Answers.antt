use Rattle.std.proofs.Common.{rules, cond, Some, None, ap, sym, ◌∙◌}
use Rattle.std.specs.BTreeMap.{get}
use Rattle.std.specs.Ordering.{is_eq}
use Rattle.std.proofs.lemmas.Bool.{cond-false}
use Rattle.lemmas.proofs.Tests.{list_any_empty}
use Rattle.ssi_reads.specs.Machinery.Prefixes.{prefix_cmp, mark_cmp}
use Rattle.ssi_reads.proofs.Compared.{other_mark}
use Rattle.ssi_reads.proofs.Maps.{cond_twice}
use Rattle.ssi_reads.proofs.RangedMarks.{marks_same}
use Rattle.ssi_reads.proofs.range_marks.remove_mark.Goals as goal

pub returns-then-is_empty : goal.returns-then-is_empty
returns-then-is_empty c q x ne =
    let r = c.args.place.now.prefix in
    let set = c.in-Some.set.now in
    marks_same r c.args.marks.now c.remove-then-is_empty.new.self (Some set) None (search rules)
    (λ q. c.remove-then-is_empty.ensures.updates.0 q ∙
    (ap (λ o. cond (is_eq (prefix_cmp r q)) None o) (((c.get_mut.follows.holds _).3 (search rules)).0 q) ∙
    cond_twice (is_eq (prefix_cmp r q)) None (Some c.remove.new.self) (get prefix_cmp c.args.marks.now q))) x
    (sym (list_any_empty (λ y. is_eq (mark_cmp x y)) c.remove.new.self.keys (search rules)) ∙
    (c.remove.ensures.updates.0 x ∙ cond-false _ _ _ (other_mark c.args.txn c.args.place.now.span x ne))) q

pub returns-else-is_empty : goal.returns-else-is_empty
returns-else-is_empty c q x ne =
    marks_same c.args.place.now.prefix c.args.marks.now (c.get_mut.follows.lender c.remove.new.self) (Some c.in-Some.set.now) (Some c.remove.new.self) (search rules)
    ((c.get_mut.follows.holds _).3 (search rules)).0 x
    (c.remove.ensures.updates.0 x ∙ cond-false _ _ _ (other_mark c.args.txn c.args.place.now.span x ne)) q
