use Rattle.ssi_store.specs.Mirror.Stores.{IsAt}
use Rattle.ssi_cli.proofs.HubRuns.{run_both}
use Rattle.ssi_cli.proofs.clients.Clients.round.Goals as goal

pub returns-clause-run : goal.returns-clause-run
returns-clause-run g c =
    run_both (IsAt {g = g.C.Chains} {h = g.M.Marks} g.C.Chains.held g.M.Marks.marked) c.args.self.now.hub
    c.go_on.new.self.hub c.take_all.new.self.hub c.args.store.now c.go_on.new.store c.take_all.new.store c.go_on.ensures.run
    c.take_all.ensures.run
