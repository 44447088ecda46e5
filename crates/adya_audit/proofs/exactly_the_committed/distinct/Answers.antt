use Rattle.std.proofs.Common.{◌≡◌, ℕ, false, refl, sym, subst, nat_cmp, ◌∙◌}
use Rattle.std.specs.BTreeSet.{contains}
use Rattle.std.proofs.lemmas.Bool.{not-true, not-false}
use Rattle.lemmas.proofs.Counts.{count}
use Rattle.adya_audit.proofs.Distinct.{taken, twice}
use Rattle.adya_audit.proofs.exactly_the_committed.distinct.Goals as goal

pub returns-then-not-branch : goal.returns-then-not-branch
returns-then-not-branch c =
    let x = c.txn-item.result in
    let had = not-false (contains nat_cmp c.loop-txn.numbers x)
    (sym c.in_ok-insert.ensures.added ∙ c.if-not-branch.true) in (
      x,
      twice c.args.txns.now c.loop-txn.txn-index x c.loop-txn-test.true c.txn-item.is x (count c.args.txns.now x)
          (contains nat_cmp c.loop-txn.numbers x) (c.loop-txn.invariant x) refl had,
    )

pub loop-txn-preserved : goal.loop-txn-preserved
loop-txn-preserved c =
    let x = c.txn-item.result in
    let new = not-true (contains nat_cmp c.loop-txn.numbers x)
    (sym c.in_ok-insert.ensures.added ∙ c.if-not-branch.false) in
    λ t.
    taken c.args.txns.now c.loop-txn.txn-index x c.loop-txn-test.true c.txn-item.is t (count c.args.txns.now t)
    (contains nat_cmp c.loop-txn.numbers t) (c.loop-txn.invariant t) (contains nat_cmp c.insert.new.self t)
    (λ e. subst (λ (u : ℕ). contains nat_cmp c.loop-txn.numbers u ≡ false) e new)
    (c.in_ok-insert.ensures.updates.0 t)
