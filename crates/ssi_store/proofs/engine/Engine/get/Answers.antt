use Rattle.std.proofs.Common.{rules}
use Rattle.std.proofs.lemmas.Result.{err_from_is_err_and}
use Rattle.ssi_store.specs.Meaning.Courses.{Get}
use Rattle.ssi_store.proofs.Gets.{get_idle, get_long, get_memory, get_own, get_other}
use Rattle.ssi_store.proofs.engine.Engine.get.Goals as goal

pub returns-in_err-open : goal.returns-in_err-open
returns-in_err-open g c = record {
  stands = λ course st.
      let p = err_from_is_err_and c.from_residual.result c.from_residual.ensures.1 in
      rw (p.1, p.2, c.in_err-open.ensures.idle.0) (get_idle st c.args.session c.args.key c.in_err-open.ensures.idle.1);
}

pub returns-in_err-may_go_on : goal.returns-in_err-may_go_on
returns-in_err-may_go_on g c = record {
  stands = λ course st.
      let p = err_from_is_err_and c.from_residual-in_err-may_go_on.result c.from_residual-in_err-may_go_on.ensures.1 in
      rw (p.1, p.2, c.in_err-may_go_on.ensures.long.0) (get_long st c.args.session c.args.key c.in_ok-open.open.now (c.in_ok-open.ensures.open) c.in_err-may_go_on.ensures.long.1);
}

pub returns-in_err-event : goal.returns-in_err-event
returns-in_err-event g c = record {
  stands = λ course st.
      let p = err_from_is_err_and c.from_residual-in_err-event.result c.from_residual-in_err-event.ensures.1 in
      rw (p.1, p.2) (get_memory st c.args.session c.args.key c.in_ok-open.open.now (c.in_ok-open.ensures.open) c.in_ok-may_go_on.ensures.short);
}

pub returns-then-owns : goal.returns-then-owns
returns-then-owns g c = record {
  stands = λ course st.
      c.show_own.ensures.stands course (Get c.args.session c.args.key) c.txn-txn.result st
      (get_own st c.args.session c.args.key c.in_ok-open.open.now (c.in_ok-open.ensures.open) c.in_ok-may_go_on.ensures.short c.laws_below.ensures
      c.txn-txn.result c.txn-txn.ensures (Prim.search rules) _ c.in_ok-event.ensures.event _
      c.in_ok-event.ensures.reply);
}

pub returns : goal.returns
returns g c = record {
  stands = λ course st.
      c.show.ensures.stands course (Get c.args.session c.args.key) st
      (get_other st c.args.session c.args.key c.in_ok-open.open.now (c.in_ok-open.ensures.open) c.in_ok-may_go_on.ensures.short
      c.laws_below.ensures c.txn-txn.result c.txn-txn.ensures (Prim.search rules) _ c.in_ok-event.ensures.event _
      c.in_ok-event.ensures.reply);
}
