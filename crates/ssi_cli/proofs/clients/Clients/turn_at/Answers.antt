use Rattle.ssi_store.specs.Mirror.Stores.{IsAt}
use Rattle.ssi_cli.proofs.HubRuns.{not_run}
use Rattle.ssi_cli.proofs.clients.Clients.turn_at.Goals as goal

pub returns-in_default-clause-run : goal.returns-in_default-clause-run
returns-in_default-clause-run g c =
    not_run (IsAt {g = g.C.Chains} {h = g.M.Marks} g.C.Chains.held g.M.Marks.marked) c.args.self.now.hub c.args.store.now

pub returns-in_default-peer_at-clause-run : goal.returns-in_default-peer_at-clause-run
returns-in_default-peer_at-clause-run g c =
    not_run (IsAt {g = g.C.Chains} {h = g.M.Marks} g.C.Chains.held g.M.Marks.marked) c.args.self.now.hub c.args.store.now

pub returns-then-not-is_due-clause-run : goal.returns-then-not-is_due-clause-run
returns-then-not-is_due-clause-run g c =
    not_run (IsAt {g = g.C.Chains} {h = g.M.Marks} g.C.Chains.held g.M.Marks.marked) c.args.self.now.hub c.args.store.now

pub returns-clause-run : goal.returns-clause-run
returns-clause-run g c = c.turn.ensures.run
