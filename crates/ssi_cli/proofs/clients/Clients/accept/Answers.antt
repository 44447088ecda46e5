use Rattle.std.proofs.Common.{refl, ◌∙◌}
use Rattle.ssi_cli.proofs.HubRuns.{called_both, not_called}
use Rattle.ssi_cli.proofs.clients.Clients.accept.Goals as goal

pub loop-init : goal.loop-init
loop-init c = (not_called c.args.self.now.hub, refl)

pub loop-preserved : goal.loop-preserved
loop-preserved c = (
  called_both c.args.self.now.hub c.loop.self.hub c.add.new.self.hub c.loop.invariant.0 c.add.ensures.called,
  c.add.ensures.table ∙ c.loop.invariant.1,
)

pub returns-clause-called : goal.returns-clause-called
returns-clause-called c = c.loop.invariant.0

pub returns-clause-table : goal.returns-clause-table
returns-clause-table c = c.loop.invariant.1

pub returns-in_default-clause-called : goal.returns-in_default-clause-called
returns-in_default-clause-called c = c.loop.invariant.0

pub returns-in_default-clause-table : goal.returns-in_default-clause-table
returns-in_default-clause-table c = c.loop.invariant.1
