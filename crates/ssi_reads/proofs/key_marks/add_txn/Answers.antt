use Rattle.std.proofs.Common.{rules, ◌≡◌, ℕ, List, true, cond, Some, None, ap, ◌∙◌}
use Rattle.std.specs.BTreeMap.{get}
use Rattle.std.specs.Ordering.{nat_cmp, is_eq}
use Rattle.std.specs.Cmp.Lexicographic.{slice_cmp}
use Rattle.std.specs.List.{list_any}
use Rattle.ssi_reads.specs.Machinery.Indexed.{indexed}
use Rattle.ssi_reads.proofs.Maps.{on_err_from}
use Rattle.ssi_reads.proofs.KeyedMarks.{indexed_more, indexed_same}
use Rattle.ssi_reads.proofs.key_marks.add_txn.Goals as goal

pub returns-in_err-insert-clause-refused : goal.returns-in_err-insert-clause-refused
returns-in_err-insert-clause-refused c =
    let all : (k : List ℕ) (u : ℕ) → indexed (c.get_mut.follows.lender c.insert.new.self) k u ≡ indexed c.args.txns.now k u =
    λ k u. indexed_same c.args.key c.args.txns.now (c.get_mut.follows.lender c.insert.new.self) (Some c.in-Some.set.now) (Some c.insert.new.self) (search rules)
    ((c.get_mut.follows.holds _).3 (search rules)).0 u (search rules) k in
    on_err_from c.from_residual.result _ all

pub returns-in-Some-clause-added : goal.returns-in-Some-clause-added
returns-in-Some-clause-added c =
    indexed_more c.args.key c.args.txns.now (c.get_mut.follows.lender c.insert.new.self) (Some c.in-Some.set.now) (Some c.insert.new.self) (search rules)
    ((c.get_mut.follows.holds _).3 (search rules)).0 c.args.txn c.in_ok-insert.ensures.updates.0

pub returns-clause-added : goal.returns-clause-added
returns-clause-added c =
    let none : c.get_mut.follows.lender-at-none ≡ c.args.txns.now = c.get_mut.follows.holds-at-none in
    let old : get (slice_cmp nat_cmp) c.args.txns.now c.args.key ≡ None = search rules in
    indexed_more c.args.key c.args.txns.now c.insert-3.new.self None (Some c.insert-2.new.self) old
    (λ q. c.in_ok-insert-3.ensures.updates.0 q ∙
    ap (λ m. cond (is_eq (slice_cmp nat_cmp c.args.key q)) (Some c.insert-2.new.self) (get (slice_cmp nat_cmp) m q)) none) c.args.txn
    (λ u. c.in_ok-insert-2.ensures.updates.0 u ∙
    ap (λ (ts : List ℕ). cond (is_eq (nat_cmp c.args.txn u)) true (list_any (λ t. is_eq (nat_cmp u t)) ts)) c.new-set.ensures.empty)
