use Rattle.append_check.specs.Meaning.Verdicts.{history_of}
use Rattle.append_check.proofs.Holding.{dirty_holds}
use Rattle.append_check.proofs.reasons.dirty_update.Goals as goal

pub returns-in-Some-committed_writer : goal.returns-in-Some-committed_writer
returns-in-Some-committed_writer c b =
    let a = c.in-Some-aborted_writer in
    let w = c.in-Some-committed_writer in
    dirty_holds (history_of c.args.transactions.now) c.args.read c.in-Some.seen c.in-Some.ensures c.args.aborted c.args.element
    (c.stands_before.ensures c.if-not-stands_before.false) (c.nobody_appends.ensures c.if-not-nobody_appends.false)
    (a.field-0, a.ensures.0, a.ensures.1) (w.field-0, w.ensures.0, w.ensures.1)
