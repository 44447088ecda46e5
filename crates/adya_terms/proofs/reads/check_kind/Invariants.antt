use Rattle.std.proofs.Common.{◌≡◌, ◌+◌, drop}
use Rattle.adya_values.specs.Computing.Faults.{bad_reads}
use Rattle.adya_terms.specs.Machinery.EventIndex.{indexed, unfinished_in}
use Rattle.adya_terms.specs.Machinery.Reads.{is_good, fault_of}
use Rattle.adya_terms.proofs.reads.check_kind.Given as goal

abbrev pub invariant-loop-i : goal.invariant-loop-i
invariant-loop-i l =
    let all = indexed l.index in
    let good = is_good l.kind all (unfinished_in l.index) in
    bad_reads good (fault_of l.kind) all 2 all ≡ bad_reads good (fault_of l.kind) all (2 + l.i) (drop l.i all)
