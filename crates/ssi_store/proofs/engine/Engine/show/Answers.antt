use Rattle.std.proofs.Common.{subst, ◌∷◌, [], Ok}
use Rattle.std.proofs.lemmas.Result.{err_from_is_err_and}
use Rattle.adya_values.specs.Mirror.Events.{event_of}
use Rattle.ssi_conflict.specs.Meaning.Calls.{Reads}
use Rattle.ssi_conflict.specs.Clauses.Pairs.{IsOrderedPivot, IsSmallest}
use Rattle.ssi_conflict.specs.Mirror.{Stands, carried, pivot_of}
use Rattle.ssi_store.specs.Meaning.Acts.{acts, begun}
use Rattle.ssi_store.specs.Mirror.Commands.{reply_of}
use Rattle.ssi_store.specs.Meaning.Courses.{Unsafe}
use Rattle.ssi_store.specs.Meaning.Recording.{events}
use Rattle.ssi_store.specs.Meaning.Tracked.{tracked}
use Rattle.ssi_store.specs.Mirror.Standing.{with_snapshots}
use Rattle.ssi_store.proofs.Looks.{safe_of, may_look, look_memory, look_ends, looked}
use Rattle.ssi_store.proofs.Steps.{same_course}
use Rattle.ssi_store.proofs.engine.Engine.show.Goals as goal

pub returns-in_err-room : goal.returns-in_err-room
returns-in_err-room g c = record {
  stands = λ course m st is.
      let p = err_from_is_err_and c.from_residual.result c.from_residual.ensures.1 in
      rw (p.1, p.2) (look_memory st c.args.session c.args.txn (Reads c.args.txn c.args.low c.args.high ∷ []) (event_of c.args.event)
      (reply_of c.args.reply) m is _ _ _ st.log.tracker c.room.ensures.recorded c.room.ensures.started);
}

pub returns-in_err-answer : goal.returns-in_err-answer
returns-in_err-answer g c = record {
  stands = λ course m st is.
      let p = err_from_is_err_and c.from_residual-in_err-answer.result c.from_residual-in_err-answer.ensures.1 in
      rw (p.1, p.2) (look_memory st c.args.session c.args.txn (Reads c.args.txn c.args.low c.args.high ∷ []) (event_of c.args.event)
      (reply_of c.args.reply) m is _ _ _
      (c.in_err-answer.ensures.stands (tracked (acts course)) st.log.tracker
      (may_look st c.args.session c.args.txn c.args.low c.args.high (event_of c.args.event) (reply_of c.args.reply) m is))
      c.room.ensures.recorded c.room.ensures.started);
}

pub returns-in-Unsafe : goal.returns-in-Unsafe
returns-in-Unsafe g c = record {
  stands = λ course m st is.
      let may = may_look st c.args.session c.args.txn c.args.low c.args.high (event_of c.args.event) (reply_of c.args.reply) m is in
      c.drop_txn.ensures.stands course m (Unsafe c.in-Unsafe.pivot)
      (same_course st _ (record {
        commits = st.log.commits;
        chains = st.log.chains;
        tracker = subst (λ a. Stands g.M.Marks.marked c.on_read.new.self
            (carried (Reads c.args.txn c.args.low c.args.high) (tracked (acts course)) (Ok a))) c.in-Unsafe.is
            (c.in_ok-answer.ensures.stands (tracked (acts course)) st.log.tracker may);
        events = c.room.ensures.recorded (events (acts course)) st.log.events;
        opened = st.log.opened;
        snapshots = c.room.ensures.started (with_snapshots (begun (acts course)) (acts course)) st.log.snapshots;
      }))
      (look_ends st c.args.session c.args.txn c.args.low c.args.high (event_of c.args.event) (reply_of c.args.reply) m is
      c.laws_below.ensures c.in-Unsafe.pivot
      (subst (λ a. IsSmallest IsOrderedPivot (Reads c.args.txn c.args.low c.args.high ∷ tracked (acts course)) (pivot_of a))
      c.in-Unsafe.is (c.in_ok-answer.ensures.answer (tracked (acts course)) st.log.tracker may)));
}

pub returns : goal.returns
returns g c = record {
  stands = λ course m st is.
      let may = may_look st c.args.session c.args.txn c.args.low c.args.high (event_of c.args.event) (reply_of c.args.reply) m is in
      let safe = safe_of c.in_ok-answer.answer c.in_default.not-Unsafe in
      looked st c.args.session c.args.txn c.args.low c.args.high (event_of c.args.event) (reply_of c.args.reply) m is
      c.laws_below.ensures _ _ _ _ c.count_at.ensures.counted
      (subst (λ a. IsSmallest IsOrderedPivot (Reads c.args.txn c.args.low c.args.high ∷ tracked (acts course)) (pivot_of a))
      safe (c.in_ok-answer.ensures.answer (tracked (acts course)) st.log.tracker may))
      (subst (λ a. Stands g.M.Marks.marked c.on_read.new.self
      (carried (Reads c.args.txn c.args.low c.args.high) (tracked (acts course)) (Ok a))) safe
      (c.in_ok-answer.ensures.stands (tracked (acts course)) st.log.tracker may))
      (λ es told. c.event.ensures.recorded es (c.room.ensures.recorded es told))
      (λ ts told. c.event.ensures.started ts (c.room.ensures.started ts told));
}
