use Rattle.std.proofs.Common.{rules, ◌≡◌, ℕ, List, true, cond, Some, None, ap, ◌∙◌}
use Rattle.std.specs.BTreeMap.{get}
use Rattle.std.specs.Ordering.{nat_cmp, is_eq}
use Rattle.std.specs.Cmp.Lexicographic.{slice_cmp}
use Rattle.std.specs.List.{list_any}
use Rattle.ssi_reads.specs.Machinery.Indexed.{listed}
use Rattle.ssi_reads.proofs.Maps.{on_err_from}
use Rattle.ssi_reads.proofs.KeyedMarks.{listed_more, listed_same}
use Rattle.ssi_reads.proofs.key_marks.add_key.Goals as goal

pub returns-in_err-insert-clause-refused : goal.returns-in_err-insert-clause-refused
returns-in_err-insert-clause-refused c =
    let all : (u : ℕ) (k : List ℕ) → listed (c.get_mut.follows.lender c.insert.new.self) u k ≡ listed c.args.keys.now u k =
    λ u k. listed_same c.args.txn c.args.keys.now (c.get_mut.follows.lender c.insert.new.self) (Some c.in-Some.set.now) (Some c.insert.new.self) (search rules)
    ((c.get_mut.follows.holds _).3 (search rules)).0 k (search rules) u in
    on_err_from c.from_residual.result _ all

pub returns-clause-added : goal.returns-clause-added
returns-clause-added c =
    let none : c.get_mut.follows.lender-at-none ≡ c.args.keys.now = c.get_mut.follows.holds-at-none in
    let old : get nat_cmp c.args.keys.now c.args.txn ≡ None = search rules in
    listed_more c.args.txn c.args.keys.now c.insert-3.new.self None (Some c.insert-2.new.self) old
    (λ u. c.in_ok-insert-3.ensures.updates.0 u ∙
    ap (λ m. cond (is_eq (nat_cmp c.args.txn u)) (Some c.insert-2.new.self) (get nat_cmp m u)) none) c.args.key
    (λ k. c.in_ok-insert-2.ensures.updates.0 k ∙
    ap (λ (ks : List (List ℕ)). cond (is_eq (slice_cmp nat_cmp c.args.key k)) true (list_any (λ x. is_eq (slice_cmp nat_cmp k x)) ks)) c.new-set.ensures.empty)
