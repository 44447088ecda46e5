use Rattle.std.proofs.Common.{◌≡◌, ◌<◌, ◌+◌, ◌∙◌, ℕ, List, length, sym, ap, subst, Some, arith}
use Rattle.adya_values.specs.declared.event.Version.{Version}
use Rattle.adya_terms.specs.declared.reads.BadRead.{BadRead}
use Rattle.adya_terms.specs.declared.reads.BadRead.TheVariants.{Aborted, Intermediate}
use Rattle.adya_values.specs.Computing.Faults.{Fault, first}
use Rattle.adya_terms.specs.Machinery.EventIndex.{indexed, unfinished_in}
use Rattle.adya_terms.specs.Machinery.Checks.{Names}
use Rattle.adya_terms.specs.Machinery.Reads.{is_good, fault_of, refusal_of}
use Rattle.adya_terms.proofs.Refused.{bad_here, bad_later}
use Rattle.adya_terms.proofs.reads.check_kind.Goals as goal
use Rattle.lemmas.proofs.Steps.{turn_below}

-- the fault of a kind is named by what it is
named : (kind : BadRead) (fs : List Fault) (n : ℕ) (v : Version) → first fs ≡ Some (fault_of kind n v) → Names fs (refusal_of kind n v)
named Aborted fs n v e = e
named Intermediate fs n v e = e

pub first_bad-requires : goal.first_bad-requires
first_bad-requires c = record {
  within = subst (λ n. c.loop-i.i < n) c.len-i-end.ensures.length c.loop-i-test.true;
  written = c.requires.written;
}

pub returns-in-Some : goal.returns-in-Some
returns-in-Some c =
    let all = indexed c.args.index.now in
    let kind = c.args.kind in
    let i = c.loop-i.i in
    let less : i < length all = subst (λ n. i < n) c.len-i-end.ensures.length c.loop-i-test.true in
    let t = turn_below all i less in
    let line : 2 + i ≡ i + 2 = omega arith in
    subst (Names _) (sym c.fault.ensures)
    (named kind _ (i + 2) c.in-Some.version
    (ap first c.loop-i.invariant ∙
    (bad_here (is_good kind all (unfinished_in c.args.index.now)) (fault_of kind) all i t.0 t.1 c.in-Some.version (c.in-Some.ensures t.0 t.1.found) ∙
    ap (λ n. Some (fault_of kind n c.in-Some.version)) line)))

pub loop-i-preserved : goal.loop-i-preserved
loop-i-preserved c =
    let all = indexed c.args.index.now in
    let kind = c.args.kind in
    let i = c.loop-i.i in
    let less : i < length all = subst (λ n. i < n) c.len-i-end.ensures.length c.loop-i-test.true in
    let t = turn_below all i less in
    c.loop-i.invariant ∙
    bad_later (is_good kind all (unfinished_in c.args.index.now)) (fault_of kind) all i t.0 t.1 (c.in_default.ensures t.0 t.1.found)
