use Rattle.std.proofs.Common.{◌≡◌}
use Rattle.std.specs.Prelude.{is_some}
use Rattle.ssi_store.specs.Mirror.Stores.{IsAt}
use Rattle.ssi_cli.specs.Machinery.HubRuns.{HasRun}
use Rattle.ssi_cli.proofs.clients.Clients.go_on.Given as goal

abbrev pub invariant-loop-index : goal.invariant-loop-index
invariant-loop-index g l =
    HasRun (IsAt g.C.Chains.held g.M.Marks.marked) l.initial.self.hub l.initial.store l.self.hub l.store
    × (is_some l.self.users ≡ is_some l.initial.self.users)
