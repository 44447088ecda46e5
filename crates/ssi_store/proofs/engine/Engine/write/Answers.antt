use Rattle.std.proofs.Common.{rules, subst, sym, ◌++◌, ◌∷◌, []}
use Rattle.std.proofs.lemmas.Result.{err_from_is_err_and}
use Rattle.adya_values.specs.Mirror.Events.{content_of}
use Rattle.ssi_store.proofs.PutsAndDels.{write_idle, write_long, write_memory, write_done, same_as}
use Rattle.ssi_store.proofs.engine.Engine.write.Goals as goal

pub returns-in_default : goal.returns-in_default
returns-in_default g c = record {
  stands = λ course st.
      write_idle st c.args.session c.args.key (content_of c.args.content) _ (Prim.search rules) (Prim.search rules);
}

pub returns-in_err-may_go_on : goal.returns-in_err-may_go_on
returns-in_err-may_go_on g c = record {
  stands = λ course st.
      let p = err_from_is_err_and c.from_residual.result c.from_residual.ensures.1 in
      rw (p.1, p.2, c.in_err-may_go_on.ensures.long.0) (write_long st c.args.session c.args.key (content_of c.args.content) c.in-Some.open.now (sym c.in-Some.ensures.value) _
      (((c.get_mut.follows.holds c.in-Some.open.now).3 (Prim.search rules)).0) c.in_err-may_go_on.ensures.long.1);
}

pub returns-in_err-room : goal.returns-in_err-room
returns-in_err-room g c = record {
  stands = λ course st.
      let p = err_from_is_err_and c.from_residual-in_err-room.result c.from_residual-in_err-room.ensures.1 in
      rw (p.1, p.2) (write_memory st c.args.session c.args.key (content_of c.args.content) c.in-Some.open.now (sym c.in-Some.ensures.value)
      c.in_ok-may_go_on.ensures.short _ _ _ c.in-Some.open.now (((c.get_mut.follows.holds c.in-Some.open.now).3 (Prim.search rules)).0)
      (same_as c.in-Some.open.now) c.room.ensures.recorded c.room.ensures.started);
}

pub returns-in_err-m : goal.returns-in_err-m
returns-in_err-m g c = record {
  stands = λ course st.
      let p = err_from_is_err_and c.from_residual-in_err-m.result c.from_residual-in_err-m.ensures.1 in
      rw (p.1, p.2) (write_memory st c.args.session c.args.key (content_of c.args.content) c.in-Some.open.now (sym c.in-Some.ensures.value)
      c.in_ok-may_go_on.ensures.short _ _ _ c.write.new.self (((c.get_mut.follows.holds c.write.new.self).3 (Prim.search rules)).0)
      c.in_err-m.ensures.err c.room.ensures.recorded c.room.ensures.started);
}

pub returns : goal.returns
returns g c = record {
  stands = λ course st.
      write_done st c.args.session c.args.key (content_of c.args.content) c.in-Some.open.now (sym c.in-Some.ensures.value)
      c.in_ok-may_go_on.ensures.short c.laws_below.ensures _ _ _ _ _ c.write.new.self
      (((c.get_mut.follows.holds c.write.new.self).3 (Prim.search rules)).0) c.txn-txn.ensures c.in_ok-m.ensures.m
      (λ es told. subst (λ e. g.P.Past.recorded c.event.new.self (es ++ e ∷ [])) c.write_event.ensures
      (c.event.ensures.recorded es (c.room.ensures.recorded es told)))
      (λ ts told. c.event.ensures.started ts (c.room.ensures.started ts told))
      c.write.ensures.same c.in_ok-m.ensures.count c.in_ok-m.ensures.written;
}
