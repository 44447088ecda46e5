use Rattle.std.proofs.Common.{sym, subst}
use Rattle.std.proofs.lemmas.Result.{err_from_is_err_and}
use Rattle.ssi_store.specs.Meaning.Courses.{Abort as DoAbort, Aborted}
use Rattle.ssi_store.specs.Machinery.Ends.{IsEnd}
use Rattle.ssi_store.proofs.Ends.{abort_idle, abort_ends}
use Rattle.ssi_store.proofs.engine.Engine.abort.Goals as goal

pub returns-in_err-open : goal.returns-in_err-open
returns-in_err-open g c = record {
  stands = λ course st.
      let p = err_from_is_err_and c.from_residual.result c.from_residual.ensures.1 in
      rw (p.1, p.2, c.in_err-open.ensures.idle.0) (abort_idle st c.args.session c.in_err-open.ensures.idle.1);
}

pub returns : goal.returns
returns g c = record {
  stands = λ course st. c.drop_txn.ensures.stands course (DoAbort c.args.session) Aborted st
      (subst (λ n. IsEnd c.args.session n course (DoAbort c.args.session) Aborted) (sym c.txn-txn.ensures)
      (abort_ends st c.args.session c.in_ok-open.open.now c.in_ok-open.ensures.open));
}
