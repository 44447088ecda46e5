use Rattle.std.proofs.Common.{true, refl}
use Rattle.ssi_cli.proofs.Deeds.{finishes}
use Rattle.ssi_cli.proofs.turns.end_if_done.Goals as goal

pub returns-clause-finished : goal.returns-clause-finished
returns-clause-finished g c =
    let done = c.is_done.ensures.done c.if-not-is_done.false in (
      refl,
      done.0,
      finishes c.args.hub.now c.closed.new.self c.args.token done.1 (c.has_more-due.ensures c.if-due.false).0
          (c.closed.ensures.stands true),
    )
