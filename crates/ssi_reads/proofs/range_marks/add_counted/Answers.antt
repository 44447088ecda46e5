use Rattle.std.proofs.Common.{◌≡◌, ◌∷◌, ◌||◌, ap, sym, ◌∙◌, subst}
use Rattle.std.specs.BTreeSet.{contains}
use Rattle.std.specs.List.Sorted.{IsStrictlySortedBy}
use Rattle.std.specs.Ordering.{nat_cmp, is_eq}
use Rattle.std.specs.Map.Iter.{deref}
use Rattle.std.proofs.lemmas.Map.Iter.{rest_more}
use Rattle.std.proofs.lemmas.Map.Keys.{sorted_tail}
use Rattle.ssi_reads.specs.Machinery.Prefixes.{mark_cmp}
use Rattle.ssi_reads.specs.Machinery.Ranged.{counts, any_counts}
use Rattle.ssi_reads.proofs.LaterMarks.{none_from}
use Rattle.ssi_reads.proofs.RangedMarks.{mark_taken, mark_passed}
use Rattle.ssi_reads.proofs.range_marks.add_counted.Goals as goal

pub returns-then-lt : goal.returns-then-lt
returns-then-lt c u =
    let mark = c.in-Some.mark.now in
    let rest : c.loop-mark.mark-iterator ≡ mark ∷ c.next.new.self = rest_more deref _ _ _ c.in-Some.mark c.in-Some.is c.next.ensures.steps in
    let sorted : IsStrictlySortedBy mark_cmp (mark ∷ c.next.new.self) = subst (IsStrictlySortedBy mark_cmp) rest c.loop-mark.invariant.1 in
    sym (ap (λ b. b || contains nat_cmp c.loop-mark.found u)
    (ap (any_counts c.args.places.now c.args.prefix.now c.args.key u) rest ∙
    none_from c.args.places.now c.args.prefix.now c.args.key u mark c.next.new.self sorted (sym c.lt.ensures ∙ c.if-lt.true))) ∙
    c.loop-mark.invariant.0 u

pub loop-mark-preserved-in_ok-insert : goal.loop-mark-preserved-in_ok-insert
loop-mark-preserved-in_ok-insert c =
    let mark = c.in-Some.mark.now in
    let rest : c.loop-mark.mark-iterator ≡ mark ∷ c.next.new.self = rest_more deref _ _ _ c.in-Some.mark c.in-Some.is c.next.ensures.steps in (
      (λ u. mark_taken mark.txn u (counts c.args.places.now c.args.prefix.now c.args.key mark) _ _ _ _
          (sym c.counts.ensures ∙ c.if-counts.true) (c.in_ok-insert.ensures.updates.0 u)
          (ap (λ xs. any_counts c.args.places.now c.args.prefix.now c.args.key u xs || contains nat_cmp c.loop-mark.found u) (sym rest) ∙ c.loop-mark.invariant.0 u)),
      sorted_tail mark_cmp mark c.next.new.self (subst (IsStrictlySortedBy mark_cmp) rest c.loop-mark.invariant.1),
    )

pub loop-mark-preserved : goal.loop-mark-preserved
loop-mark-preserved c =
    let mark = c.in-Some.mark.now in
    let rest : c.loop-mark.mark-iterator ≡ mark ∷ c.next.new.self = rest_more deref _ _ _ c.in-Some.mark c.in-Some.is c.next.ensures.steps in (
      (λ u. mark_passed (is_eq (nat_cmp u mark.txn)) (counts c.args.places.now c.args.prefix.now c.args.key mark) _ _ _
          (sym c.counts.ensures ∙ c.if-counts.false)
          (ap (λ xs. any_counts c.args.places.now c.args.prefix.now c.args.key u xs || contains nat_cmp c.loop-mark.found u) (sym rest) ∙ c.loop-mark.invariant.0 u)),
      sorted_tail mark_cmp mark c.next.new.self (subst (IsStrictlySortedBy mark_cmp) rest c.loop-mark.invariant.1),
    )
