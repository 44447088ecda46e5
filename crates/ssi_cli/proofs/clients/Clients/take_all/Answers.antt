use Rattle.std.proofs.Common.{◌∙◌}
use Rattle.ssi_store.specs.Mirror.Stores.{IsAt}
use Rattle.ssi_cli.proofs.HubRuns.{run_both}
use Rattle.ssi_cli.proofs.clients.Clients.take_all.Goals as goal

pub loop-event-preserved : goal.loop-event-preserved
loop-event-preserved g c = (
  run_both (IsAt {g = g.C.Chains} {h = g.M.Marks} g.C.Chains.held g.M.Marks.marked) c.args.self.now.hub
      c.loop-event.self.hub c.take.new.self.hub c.args.store.now c.loop-event.store c.take.new.store
      c.loop-event.invariant.0 c.take.ensures.run,
  c.take.ensures.table ∙ c.loop-event.invariant.1,
)
