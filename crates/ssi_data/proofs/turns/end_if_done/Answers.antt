use Rattle.std.proofs.Common.{refl}
use Rattle.ssi_data.proofs.Turning.{finishes}
use Rattle.ssi_data.proofs.turns.end_if_done.Goals as goal

pub returns-clause-finished : goal.returns-clause-finished
returns-clause-finished g c =
    let done = c.is_done.ensures.done c.if-not-is_done.false in (
      refl,
      done.0,
      finishes g.T.ProtocolStore.keeps g.T.AnyStore.is_at c.args.token c.args.server.now
          c.closed.new.self done.1 (c.has_more-due.ensures c.if-due.false).0 c.closed.ensures.serves,
    )
