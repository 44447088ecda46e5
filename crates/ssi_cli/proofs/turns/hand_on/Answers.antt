use Rattle.std.proofs.Common.{true, refl}
use Rattle.ssi_hub.specs.Clauses.Calls.{Closed}
use Rattle.ssi_cli.proofs.HubRuns.{called_received, called_with, called_both}
use Rattle.ssi_cli.proofs.turns.hand_on.Goals as goal

pub returns-in-Ok-clause-called : goal.returns-in-Ok-clause-called
returns-in-Ok-clause-called c =
    called_received c.args.hub.now c.received.new.self c.args.token c.args.bytes.now _ c.received.result
    c.received.ensures.ok c.received.ensures.err (c.received.ensures.stands true)

pub returns-in-Err-clause-called : goal.returns-in-Err-clause-called
returns-in-Err-clause-called c =
    called_both c.args.hub.now c.received.new.self c.closed.new.self
    (called_received c.args.hub.now c.received.new.self c.args.token c.args.bytes.now _ c.received.result
    c.received.ensures.ok c.received.ensures.err (c.received.ensures.stands true))
    (called_with c.received.new.self c.closed.new.self (Closed c.args.token) (λ calls. refl) c.closed.ensures.closed.stopped
    (c.closed.ensures.stands true))

pub returns-in-Err-clause-stands : goal.returns-in-Err-clause-stands
returns-in-Err-clause-stands c = λ calls s. (c.closed.ensures.stands true) calls (c.in-Err.ensures.stands true calls s)

pub returns-in-Ok-clause-stands : goal.returns-in-Ok-clause-stands
returns-in-Ok-clause-stands c = c.in-Ok.ensures.stands true
