use Rattle.std.proofs.Common.{◌≡◌}
use Rattle.std.specs.Prelude.{is_some}
use Rattle.ssi_cli.specs.Machinery.HubRuns.{WasCalled}
use Rattle.ssi_cli.proofs.clients.Clients.part_all.Given as goal

abbrev pub invariant-loop-index : goal.invariant-loop-index
invariant-loop-index l =
    WasCalled l.initial.self.hub l.self.hub × (is_some l.self.users ≡ is_some l.initial.self.users)
