use Rattle.std.proofs.Common.{◌≡◌, true, List, subst, IfOk}
use Rattle.append_values.specs.declared.reason.Link.{Link}
use Rattle.append_values.specs.Meaning.Reasons.{IsRound, IsSimple, AreKept}
use Rattle.append_check.specs.Meaning.Verdicts.{history_of}
use Rattle.append_check.proofs.reasons.holds.Goals as goal

pub returns-in-Twice : goal.returns-in-Twice
returns-in-Twice c b = rw c.in-Twice.is (c.twice.ensures b)

pub returns-in-Unwritten : goal.returns-in-Unwritten
returns-in-Unwritten c b = rw c.in-Unwritten.is (c.unwritten.ensures b)

pub returns-in-DirtyUpdate : goal.returns-in-DirtyUpdate
returns-in-DirtyUpdate c b = rw c.in-DirtyUpdate.is (c.dirty_update.ensures b)

pub returns-in-Future : goal.returns-in-Future
returns-in-Future c = rw c.in-Future.is c.future.ensures

pub returns-in-Intermediate : goal.returns-in-Intermediate
returns-in-Intermediate c = rw c.in-Intermediate.is c.intermediate.ensures

pub returns-in-Incompatible : goal.returns-in-Incompatible
returns-in-Incompatible c = rw c.in-Incompatible.is c.incompatible.ensures

pub returns-in-Unrepeatable : goal.returns-in-Unrepeatable
returns-in-Unrepeatable c = rw c.in-Unrepeatable.is c.unrepeatable.ensures

pub returns-in-Cycle : goal.returns-in-Cycle
returns-in-Cycle c =
    let h = history_of c.args.transactions.now in
    rw c.in-Cycle.is
    (subst (λ (links : List Link). IfOk c.cycle.result (λ b. b ≡ true → IsRound h links × IsSimple links × AreKept h links))
    c.as_slice.ensures.value c.cycle.ensures)
