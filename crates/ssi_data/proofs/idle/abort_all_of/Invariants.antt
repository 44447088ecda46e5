-- Sessions were aborted that had their last command in the second, and of each the table has what it had, or nothing.
use Rattle.std.proofs.Common.{◌≡◌, Some}
use Rattle.std.specs.Prelude.{is_some}
use Rattle.ssi_cli.specs.Clauses.Leaving.{HasForgotten}
use Rattle.ssi_cli.specs.Mirror.{last_at}
use Rattle.ssi_data.specs.Clauses.Idling.{HasAbortedIdle}
use Rattle.ssi_data.proofs.idle.abort_all_of.Given as goal

abbrev pub invariant-loop : goal.invariant-loop
invariant-loop g l = record {
  aborts : HasAbortedIdle g.T.ProtocolStore.keeps g.T.AnyStore.is_at (λ s. last_at l.initial.tables.times s ≡ Some l.second)
      l.initial.tables.users l.tables.users l.initial.server l.server;
  times : HasForgotten l.initial.tables.times l.tables.times;
  clock : l.tables.second ≡ l.initial.tables.second;
  table : is_some l.tables.users ≡ is_some l.initial.tables.users;
}
