use Rattle.std.proofs.Common.{rules, arith, ◌≡◌, ◌<◌, length, drop, Some, ap, sym, ◌∙◌, subst}
use Rattle.std.proofs.lemmas.Grind.{common_steps}
use Rattle.std.specs.BTreeSet.{contains}
use Rattle.std.specs.Ordering.{nat_cmp}
use Rattle.ssi_conflict.proofs.TableOrder.{head_is, tidy_popped, after_first}
use Rattle.ssi_conflict.proofs.table.Table.pop_before.Goals as goal
use Rattle.ssi_conflict.specs.Machinery.Index.{stamp_in, writer_in}
use Rattle.ssi_conflict.specs.Machinery.Records.{row_of}
use Rattle.ssi_conflict.specs.Machinery.Tables.{row_at, Tidy, IsTidy}

pub returns-then-is_after-clause-rest : goal.returns-then-is_after-clause-rest
returns-then-is_after-clause-rest c tidy t n e =
    let m = c.args.self.now in
    let full : 0 < length m.closed.items = grind (arith, common_steps, c.front.ensures.variant, c.in-Some.is) in
    let w = head_is m.closed.items c.in-Some.first.now full c.in-Some.ensures.lookup in
    let row : row_at m c.in-Some.first.now ≡ Some (row_of c.in-Some-get.kept.now) = search rules in
    let first = subst (λ ts. Tidy (row_at m) (contains nat_cmp m.open) ts (writer_in m.writes) m.last m.judged.items)
    w.1 tidy in
    after_first (row_at m) c.in-Some.first.now w.0 c.args.oldest first.listed first.rising
    c.in-Some-get.kept.now.stamp (ap stamp_in row) (sym c.is_after.ensures ∙ c.if-is_after.true) t n e

pub returns-clause-tidy : goal.returns-clause-tidy
returns-clause-tidy c tidy =
    let m = c.args.self.now in
    let n = c.drop_record.new.self in
    let full : 0 < length m.closed.items = grind (arith, common_steps, c.front.ensures.variant, c.in-Some.is) in
    let w = head_is m.closed.items c.in-Some.first.now full c.in-Some.ensures.lookup in
    subst IsTidy (sym c.drop_record.ensures.rest)
    (subst (λ ts. Tidy (row_at n) (contains nat_cmp m.open) ts (writer_in n.writes) m.last m.judged.items)
    (sym (c.pop_front.ensures.rest ∙ ap (drop 1) w.1))
    (tidy_popped (row_at m) (row_at n) (contains nat_cmp m.open) c.in-Some.first.now w.0 (writer_in m.writes)
    (writer_in n.writes) m.last m.judged.items c.drop_record.ensures.rows
    (c.drop_record.ensures.indexed tidy.indexed)
    (subst (λ ts. Tidy (row_at m) (contains nat_cmp m.open) ts (writer_in m.writes) m.last m.judged.items) w.1 tidy)))
