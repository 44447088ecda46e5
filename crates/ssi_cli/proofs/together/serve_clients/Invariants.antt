-- The hub and the store have gone on, and no line was `stop`.
use Rattle.std.proofs.Common.{◌≡◌, false}
use Rattle.ssi_store.specs.Mirror.Stores.{IsAt}
use Rattle.ssi_hub.specs.Mirror.{is_stopped}
use Rattle.ssi_cli.specs.Machinery.HubRuns.{HasRun}
use Rattle.ssi_cli.proofs.together.serve_clients.Given as goal

abbrev pub invariant-loop : goal.invariant-loop
invariant-loop g l =
    HasRun (IsAt g.C.Chains.held g.M.Marks.marked) l.initial.clients.hub l.initial.store l.clients.hub l.store
    × (is_stopped l.clients.hub ≡ false)
