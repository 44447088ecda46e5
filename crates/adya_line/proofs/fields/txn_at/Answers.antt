use Rattle.std.proofs.Common.{arith}
use Rattle.adya_line.proofs.Digits.{no_txn, zero_txn, some_txn}
use Rattle.adya_line.proofs.LineParts.{txn_good}
use Rattle.adya_line.proofs.fields.txn_at.Goals as goal

pub returns-in_err-first-clause-exact : goal.returns-in_err-first-clause-exact
returns-in_err-first-clause-exact c = rw c.from_residual.ensures (no_txn c.args.bytes.now c.in_err-first.ensures.exact)

pub returns-then-leads_with_zero-clause-exact : goal.returns-then-leads_with_zero-clause-exact
returns-then-leads_with_zero-clause-exact c =
    zero_txn c.args.bytes.now c.in_ok-first.rest.now (rw c.if-leads_with_zero.true at c.in_ok-first.ensures.exact)

pub returns-clause-exact : goal.returns-clause-exact
returns-clause-exact c =
    let bytes = c.args.bytes.now in
    let rest = c.in_ok-first.rest.now in
    let is = some_txn bytes rest c.in_ok-first.first c.in_ok-first.ensures.exact (omega (arith, c.if-leads_with_zero.false)) in
    rw (is, ← c.from.ensures) c.number_from.ensures

pub returns-clause-good : goal.returns-clause-good
returns-clause-good c =
    let bytes = c.args.bytes.now in
    let rest = c.in_ok-first.rest.now in
    let is = some_txn bytes rest c.in_ok-first.first c.in_ok-first.ensures.exact (omega (arith, c.if-leads_with_zero.false)) in
    txn_good (λ x. (x.0, x.1.now)) bytes c.number_from.result (rw (is, ← c.from.ensures) c.number_from.ensures)
