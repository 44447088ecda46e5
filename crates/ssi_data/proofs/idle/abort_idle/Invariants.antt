-- Sessions were aborted that had no command for longer than they may, and of each the table has what it had, or nothing.
use Rattle.std.proofs.Common.{◌≡◌}
use Rattle.std.specs.Prelude.{is_some}
use Rattle.ssi_cli.specs.Clauses.Leaving.{HasForgotten}
use Rattle.ssi_data.specs.Clauses.Idling.{HasAbortedIdle, IsIdleSince}
use Rattle.ssi_data.proofs.idle.abort_idle.Given as goal

abbrev pub invariant-loop : goal.invariant-loop
invariant-loop g l = record {
  aborts : HasAbortedIdle g.T.ProtocolStore.keeps g.T.AnyStore.is_at
      (IsIdleSince l.initial.idle.limit l.initial.tables.second l.initial.tables.times)
      l.initial.tables.users l.tables.users l.initial.server l.server;
  times : HasForgotten l.initial.tables.times l.tables.times;
  clock : l.tables.second ≡ l.initial.tables.second;
  limit : l.idle.limit ≡ l.initial.idle.limit;
  table : is_some l.tables.users ≡ is_some l.initial.tables.users;
}
