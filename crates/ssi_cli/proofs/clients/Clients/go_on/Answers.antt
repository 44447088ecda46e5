use Rattle.std.proofs.Common.{◌∙◌}
use Rattle.ssi_store.specs.Mirror.Stores.{IsAt}
use Rattle.ssi_cli.proofs.HubRuns.{run_both}
use Rattle.ssi_cli.proofs.clients.Clients.go_on.Goals as goal

pub loop-index-preserved : goal.loop-index-preserved
loop-index-preserved g c = (
  run_both (IsAt {g = g.C.Chains} {h = g.M.Marks} g.C.Chains.held g.M.Marks.marked) c.args.self.now.hub
      c.loop-index.self.hub c.turn_at.new.self.hub c.args.store.now c.loop-index.store c.turn_at.new.store
      c.loop-index.invariant.0 c.turn_at.ensures.run,
  c.turn_at.ensures.table ∙ c.loop-index.invariant.1,
)
