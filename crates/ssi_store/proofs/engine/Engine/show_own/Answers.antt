use Rattle.std.proofs.Common.{[]}
use Rattle.std.proofs.lemmas.Result.{err_from_is_err_and}
use Rattle.adya_values.specs.Mirror.Events.{event_of}
use Rattle.ssi_store.specs.Mirror.Commands.{reply_of}
use Rattle.ssi_store.proofs.Looks.{look_memory, looked_own}
use Rattle.ssi_store.proofs.engine.Engine.show_own.Goals as goal

pub returns-in_err-room : goal.returns-in_err-room
returns-in_err-room g c = record {
  stands = λ course m t st is.
      let p = err_from_is_err_and c.from_residual.result c.from_residual.ensures.1 in
      rw (p.1, p.2) (look_memory st c.args.session t [] (event_of c.args.event) (reply_of c.args.reply) m is _ _ _ st.log.tracker
      c.room.ensures.recorded c.room.ensures.started);
}

pub returns : goal.returns
returns g c = record {
  stands = λ course m t st is.
      looked_own st c.args.session t (event_of c.args.event) (reply_of c.args.reply) m is c.laws_below.ensures _ _ _ _
      c.count_at.ensures.counted st.log.tracker
      (λ es told. c.event.ensures.recorded es (c.room.ensures.recorded es told))
      (λ ts told. c.event.ensures.started ts (c.room.ensures.started ts told));
}
