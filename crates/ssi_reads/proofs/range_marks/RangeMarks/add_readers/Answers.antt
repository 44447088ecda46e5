use Rattle.std.proofs.Common.{rules, ◌≡◌, ◌||◌, suc, length, ap, ◌∙◌, arith}
use Rattle.std.specs.BTreeSet.{contains}
use Rattle.std.specs.Ordering.{nat_cmp}
use Rattle.ssi_reads.specs.Machinery.Ranged.{met}
use Rattle.ssi_reads.proofs.RangedMarks.{met_is_ranged}
use Rattle.ssi_reads.proofs.range_marks.RangeMarks.add_readers.Goals as goal

pub returns : goal.returns
returns c u =
    let long : length c.bytes.result.now ≡ length c.args.key = ap length c.bytes.ensures.same in
    let all : c.loop-len.len ≡ suc (length c.args.key) = omega (arith, long, c.loop-len-test.false, c.loop-len.auto.len-end) in
    c.loop-len.invariant u ∙ ap (λ b. b || contains nat_cmp c.args.found.now u)
    (ap (met c.args.self.now c.args.key u) all ∙ met_is_ranged c.args.self.now c.args.key u)

pub loop-len-init : goal.loop-len-init
loop-len-init c = search rules
