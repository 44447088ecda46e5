use Rattle.std.proofs.Common.{rules, cond, Some, None, ap, sym, ◌∙◌}
use Rattle.std.specs.BTreeMap.{get}
use Rattle.std.specs.Ordering.{nat_cmp, is_eq}
use Rattle.std.specs.Cmp.Lexicographic.{slice_cmp}
use Rattle.std.proofs.lemmas.Bool.{ne_eqb, cond-false}
use Rattle.lemmas.proofs.Tests.{list_any_empty}
use Rattle.ssi_reads.proofs.Numbers.{is_eq-nat_cmp}
use Rattle.ssi_reads.proofs.Maps.{cond_twice}
use Rattle.ssi_reads.proofs.KeyedMarks.{indexed_same}
use Rattle.ssi_reads.proofs.key_marks.remove_txn.Goals as goal

pub returns-then-is_empty : goal.returns-then-is_empty
returns-then-is_empty c k u ne =
    let t = c.args.txn in
    let set = c.in-Some.set.now in
    indexed_same c.args.key c.args.txns.now c.remove-then-is_empty.new.self (Some set) None (search rules)
    (λ q. c.remove-then-is_empty.ensures.updates.0 q ∙
    (ap (λ o. cond (is_eq (slice_cmp nat_cmp c.args.key q)) None o) (((c.get_mut.follows.holds _).3 (search rules)).0 q) ∙
    cond_twice (is_eq (slice_cmp nat_cmp c.args.key q)) None (Some c.remove.new.self) (get (slice_cmp nat_cmp) c.args.txns.now q))) u
    (sym (list_any_empty (λ x. is_eq (nat_cmp u x)) c.remove.new.self.keys (search rules)) ∙
    (c.remove.ensures.updates.0 u ∙ cond-false _ _ _ (is_eq-nat_cmp t u ∙ ne_eqb t u (λ e. ne (sym e))))) k

pub returns-else-is_empty : goal.returns-else-is_empty
returns-else-is_empty c k u ne =
    let t = c.args.txn in
    indexed_same c.args.key c.args.txns.now (c.get_mut.follows.lender c.remove.new.self) (Some c.in-Some.set.now) (Some c.remove.new.self) (search rules)
    ((c.get_mut.follows.holds _).3 (search rules)).0 u
    (c.remove.ensures.updates.0 u ∙ cond-false _ _ _ (is_eq-nat_cmp t u ∙ ne_eqb t u (λ e. ne (sym e)))) k
