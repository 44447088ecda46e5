use Rattle.std.proofs.Common.{◌≡◌, true, false, None, ap, sym, ◌∙◌, subst}
use Rattle.std.specs.Ordering.{is_lt, is_gt, is_some_and, nat_cmp}
use Rattle.std.specs.Map.Iter.{deref_pair}
use Rattle.std.proofs.lemmas.Map.Iter.{rest_all}
use Rattle.std.specs.Cmp.{Some-then}
use Rattle.std.specs.Cmp.Lexicographic.{slice_cmp}
use Rattle.std.specs.BTreeMap.Range.{entries_between}
use Rattle.std.specs.declared.ops.Bound.TheVariants.{Included}
use Rattle.ssi_conflict.specs.declared.writes.Write.{Write}
use Rattle.ssi_conflict.proofs.LowestMet.{from, to, none_met, uncrossed, range_is_all, lowest_of, unmet_pivot, unmet_stamp}
use Rattle.ssi_conflict.proofs.writes.Writes.met.Goals as goal
use Rattle.ssi_conflict.specs.Machinery.Index.{writer_in, IsLowest, lowest, pivot_at, stamp_at, write_cmp}
use Rattle.ssi_conflict.specs.Machinery.Records.{row_in}

pub returns-then-lt-clause-pivot : goal.returns-then-lt-clause-pivot
returns-then-lt-clause-pivot c =
    let r = c.args.reading.now in
    let crossed : is_lt (write_cmp (to r c.args.last) (from r c.args.last)) ≡ true =
    sym (ap (is_some_and is_lt) (Some-then (slice_cmp nat_cmp r.high r.low) (nat_cmp c.args.last r.snapshot))) ∙
    (sym c.lt.ensures ∙ c.if-lt.true) in
    let f = pivot_at (row_in c.args.records.now) r c.args.last in
    subst (IsLowest (writer_in c.args.self.now) f) (sym c.nothing-met.ensures.pivot)
    (λ w t e. unmet_pivot (row_in c.args.records.now) r c.args.last (w, t)
    (none_met r c.args.last crossed w))

pub returns-then-lt-clause-first : goal.returns-then-lt-clause-first
returns-then-lt-clause-first c =
    let r = c.args.reading.now in
    let crossed : is_lt (write_cmp (to r c.args.last) (from r c.args.last)) ≡ true =
    sym (ap (is_some_and is_lt) (Some-then (slice_cmp nat_cmp r.high r.low) (nat_cmp c.args.last r.snapshot))) ∙
    (sym c.lt.ensures ∙ c.if-lt.true) in
    let f = stamp_at (row_in c.args.records.now) r c.args.last in
    subst (IsLowest (writer_in c.args.self.now) f) (sym c.nothing-met.ensures.first)
    (λ w t e. unmet_stamp (row_in c.args.records.now) r c.args.last (w, t)
    (none_met r c.args.last crossed w))

pub range-write-items-requires : goal.range-write-items-requires
range-write-items-requires c =
    let r = c.args.reading.now in
    let first = from r c.args.last in
    let last = to r c.args.last in
    let upward : is_lt (write_cmp last first) ≡ false =
    sym (ap (is_some_and is_lt) (Some-then (slice_cmp nat_cmp r.high r.low) (nat_cmp c.args.last r.snapshot))) ∙
    (sym c.lt.ensures ∙ c.if-lt.false) in
    ap (λ (w : Write). is_gt (write_cmp w c.new.result.end)) c.new.ensures.start ∙
    (ap (λ (w : Write). is_gt (write_cmp first w)) c.new.ensures.end ∙ uncrossed r c.args.last
    upward)

pub loop-write-init : goal.loop-write-init
loop-write-init c =
    let r = c.args.reading.now in
    let first = from r c.args.last in
    let last = to r c.args.last in
    let es = c.args.self.now.writers.entries in
    let f = pivot_at (row_in c.args.records.now) r c.args.last in
    let g = stamp_at (row_in c.args.records.now) r c.args.last in
    let got : c.into_iter-write-iterator.result ≡
    entries_between write_cmp (Included c.new.result.start) (Included c.new.result.end) es =
    c.into_iter-write-iterator.ensures.into_iter_gives ∙ c.range-write-items.ensures.between c.new.ensures.exhausted in
    let all : c.into_iter-write-iterator.result ≡ entries_between write_cmp (Included first) (Included last) es =
    got ∙ (ap (λ (w : Write). entries_between write_cmp (Included w) (Included c.new.result.end) es)
    c.new.ensures.start ∙
    ap (λ (w : Write). entries_between write_cmp (Included first) (Included w) es) c.new.ensures.end) in (
      ap (λ o. lowest f o c.into_iter-write-iterator.result) c.nothing-met.ensures.pivot ∙
          (ap (lowest f None) all ∙ range_is_all r c.args.last f
          (unmet_pivot (row_in c.args.records.now) r c.args.last) None es),
      ap (λ o. lowest g o c.into_iter-write-iterator.result) c.nothing-met.ensures.first ∙
          (ap (lowest g None) all ∙ range_is_all r c.args.last g
          (unmet_stamp (row_in c.args.records.now) r c.args.last) None es),
    )

pub returns-clause-pivot : goal.returns-clause-pivot
returns-clause-pivot c =
    let r = c.args.reading.now in
    let f = pivot_at (row_in c.args.records.now) r c.args.last in
    let done = rest_all deref_pair _ _ _ c.in-None.is c.next.ensures.steps in
    lowest_of c.args.self.now f c.range-write-items.ensures.ordered c.loop-write.met.pivot
    (ap (lowest f c.loop-write.met.pivot) (sym done) ∙ c.loop-write.invariant.0)

pub returns-clause-first : goal.returns-clause-first
returns-clause-first c =
    let r = c.args.reading.now in
    let f = stamp_at (row_in c.args.records.now) r c.args.last in
    let done = rest_all deref_pair _ _ _ c.in-None.is c.next.ensures.steps in
    lowest_of c.args.self.now f c.range-write-items.ensures.ordered c.loop-write.met.first
    (ap (lowest f c.loop-write.met.first) (sym done) ∙ c.loop-write.invariant.1)
