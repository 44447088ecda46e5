use Rattle.std.proofs.Common.{true, refl}
use Rattle.ssi_hub.specs.Clauses.Calls.{Closed}
use Rattle.ssi_cli.proofs.HubRuns.{called_opened, called_with, called_both, not_opened}
use Rattle.ssi_cli.proofs.clients.Clients.add.Goals as goal

pub returns-then-not-add-clause-called : goal.returns-then-not-add-clause-called
returns-then-not-add-clause-called c =
    called_both c.args.self.now.hub c.opened.new.self c.closed.new.self
    (called_opened c.args.self.now.hub c.opened.new.self c.in-Ok.token c.opened.ensures.stopped (c.in-Ok.ensures.stands true))
    (called_with c.opened.new.self c.closed.new.self (Closed c.in-Ok.token) (λ calls. refl) c.closed.ensures.closed.stopped
    (c.closed.ensures.stands true))

pub returns-else-not-add-clause-called : goal.returns-else-not-add-clause-called
returns-else-not-add-clause-called c =
    called_opened c.args.self.now.hub c.opened.new.self c.in-Ok.token c.opened.ensures.stopped (c.in-Ok.ensures.stands true)

pub returns-in_default-clause-called : goal.returns-in_default-clause-called
returns-in_default-clause-called c =
    not_opened c.args.self.now.hub c.opened.new.self c.opened.ensures.stopped (c.in_default.ensures.stands true)
