use Rattle.std.specs.Prelude.{is_err}
use Rattle.ssi_hub.specs.Clauses.Calls.{with_run}
use Rattle.ssi_hub.specs.Mirror.{buffers_of}
use Rattle.ssi_hub.proofs.Ran.{run_stands, course_goes_on, no_error}
use Rattle.ssi_hub.proofs.hub.Hub.run.Goals as goal

pub returns-clause-stands : goal.returns-clause-stands
returns-clause-stands g c = λ calls s.
    run_stands g.S.ProtocolStore.keeps g.S.AnyStore.is_at (buffers_of c.args.self.now)
    (buffers_of c.carry_out.new.self) c.args.self.now.next c.carry_out.new.self.next c.args.token c.args.self.now.stopped
    c.carry_out.new.self.stopped (is_err c.carry_out.result) c.args.most c.args.store.now c.carry_out.new.store calls s
    (λ why. let (same, store) = c.carry_out.ensures.idle why in (same.buffers, same.stopped, store))
    (λ why. no_error c.carry_out.result (c.carry_out.ensures.fine why)) c.carry_out.ensures.ran c.carry_out.ensures.next

pub returns-clause-serves : goal.returns-clause-serves
returns-clause-serves g c = λ start calls s.
    let (lines, steps, one, stands, went, more) = returns-clause-stands g c calls s.stands in
    let both =
    course_goes_on g.S.AnyStore.is_at start calls
    (with_run (is_err c.carry_out.result) c.args.token lines steps calls) steps c.args.store.now c.carry_out.new.store s.follow s.at went more in
    (lines, steps, one.some, record { stands = stands; follow = both.0; at = both.1 })
