use Rattle.ssi_store.specs.Mirror.Stores.{IsAt}
use Rattle.ssi_cli.proofs.HubRuns.{not_run}
use Rattle.ssi_cli.proofs.together.serve_listener.Goals as goal

pub returns-in_default-clause-run : goal.returns-in_default-clause-run
returns-in_default-clause-run g c =
    not_run (IsAt {g = g.C.Chains} {h = g.M.Marks} g.C.Chains.held g.M.Marks.marked) c.args.clients.now.hub c.args.store.now

pub returns-in_default-clause-ends : goal.returns-in_default-clause-ends
returns-in_default-clause-ends g c = c.requires

pub returns-clause-run : goal.returns-clause-run
returns-clause-run g c = c.serve_clients.ensures.run

pub returns-clause-ends : goal.returns-clause-ends
returns-clause-ends g c = c.serve_clients.ensures.ends
