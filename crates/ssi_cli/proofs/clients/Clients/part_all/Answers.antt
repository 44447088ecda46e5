use Rattle.std.proofs.Common.{refl, ◌∙◌}
use Rattle.ssi_cli.proofs.HubRuns.{called_both, not_called}
use Rattle.ssi_cli.proofs.clients.Clients.part_all.Goals as goal

pub loop-index-init : goal.loop-index-init
loop-index-init c = (not_called c.args.self.now.hub, refl)

pub loop-index-preserved : goal.loop-index-preserved
loop-index-preserved c = (
  called_both c.args.self.now.hub c.loop-index.self.hub c.part_at.new.self.hub c.loop-index.invariant.0
      c.part_at.ensures.called,
  c.part_at.ensures.table ∙ c.loop-index.invariant.1,
)

pub returns-clause-called : goal.returns-clause-called
returns-clause-called c = c.loop-index.invariant.0

pub returns-clause-table : goal.returns-clause-table
returns-clause-table c = c.loop-index.invariant.1
