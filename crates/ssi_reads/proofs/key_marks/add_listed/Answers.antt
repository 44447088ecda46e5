use Rattle.std.proofs.Common.{◌≡◌, ◌||◌, ◌&&◌, ◌∷◌, ℕ, List, ap, sym, ◌∙◌, subst}
use Rattle.std.specs.List.{list_any}
use Rattle.std.specs.BTreeSet.{contains}
use Rattle.std.specs.Ordering.{nat_cmp, is_eq}
use Rattle.std.specs.Map.Iter.{deref}
use Rattle.std.proofs.lemmas.Map.Iter.{rest_more}
use Rattle.ssi_reads.specs.Machinery.Indexed.{listed}
use Rattle.ssi_reads.proofs.KeyedMarks.{take_step}
use Rattle.ssi_reads.proofs.key_marks.add_listed.Goals as goal

pub loop-txn-preserved-in_ok-insert : goal.loop-txn-preserved-in_ok-insert
loop-txn-preserved-in_ok-insert c u =
    let x = c.in-Some.txn.now in
    let rest : c.loop-txn.txn-iterator ≡ x ∷ c.next.new.self = rest_more deref _ _ _ c.in-Some.txn c.in-Some.is c.next.ensures.steps in
    let whole = (contains nat_cmp c.args.set.now u && listed c.args.keys.now u c.args.key) || contains nat_cmp c.args.found.now u in
    take_step x u c.next.new.self (listed c.args.keys.now u c.args.key) _ _ whole
    (λ e. ap (λ y. listed c.args.keys.now y c.args.key) (sym e) ∙ (sym c.has_key.ensures ∙ c.if-has_key.true))
    (c.in_ok-insert.ensures.updates.0 u)
    (subst (λ (xs : List ℕ). ((list_any (λ y. is_eq (nat_cmp u y)) xs && listed c.args.keys.now u c.args.key) || contains nat_cmp c.loop-txn.found u) ≡ whole) rest (c.loop-txn.invariant u))
