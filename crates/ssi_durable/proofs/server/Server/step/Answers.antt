use Rattle.std.proofs.Common.{subst}
use Rattle.ssi_hub.specs.declared.hub.Hub.{Hub}
use Rattle.ssi_hub.specs.Clauses.Stepping.{IsLineStep}
use Rattle.ssi_hub.specs.Mirror.{buffers_of}
use Rattle.ssi_durable.specs.Clauses.Counts.{is_counted}
use Rattle.ssi_durable.proofs.Counting.{counted_since}
use Rattle.ssi_durable.proofs.Serving.{option_by}
use Rattle.ssi_durable.proofs.server.Server.step.Goals as goal

pub returns-clause-serves : goal.returns-clause-serves
returns-clause-serves g c = λ n began calls was.
    let mid = c.make_room.ensures.serves n began calls was in
    option_by c.carry_out.result (λ f. f n began calls mid)
    (λ carried f.
    let (line, step, is, serves) = f n began calls mid in (
      line,
      step,
      subst (λ (h : Hub). IsLineStep g.S.ProtocolStore.keeps g.S.AnyStore.is_at (buffers_of h c.args.token) c.args.self.now.store carried
          line step c.carry_out.new.self.store) c.make_room.ensures.hub
          (subst (λ (s : _). IsLineStep g.S.ProtocolStore.keeps g.S.AnyStore.is_at (buffers_of c.make_room.new.self.hub c.args.token) s
          carried line step c.carry_out.new.self.store) c.make_room.ensures.store is),
      serves,
    ))
    c.carry_out.ensures.none c.carry_out.ensures.some

pub returns-clause-commits : goal.returns-clause-commits
returns-clause-commits g c =
    counted_since (is_counted c.carry_out.result) c.args.self.now c.make_room.new.self c.carry_out.new.self c.args.token
    c.make_room.ensures.hub c.make_room.ensures.commits c.carry_out.ensures.commits
