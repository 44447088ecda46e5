-- The lines so far were noted and carried out, and the connection is open; at first nothing is done.
use Rattle.std.proofs.Common.{◌≡◌, ◌<◌, Some, Ok}
use Rattle.ssi_store.specs.Mirror.Stores.{IsAt}
use Rattle.ssi_hub.specs.Mirror.{buffers_of, is_stopped}
use Rattle.ssi_cli.specs.Clauses.Turns.{MayRun, Carried}
use Rattle.ssi_cli.proofs.turns.carry_out_noted.Given as goal

abbrev pub invariant-loop-count : goal.invariant-loop-count
invariant-loop-count g l = record {
  none : l._count ≡ 0 → l.hub ≡ l.initial.hub;
  carried : Carried {A = Unit {0}} (IsAt g.C.Chains.held g.M.Marks.marked) l.token
      (MayRun (is_stopped l.initial.hub) (buffers_of l.initial.hub l.token) × (0 < l._count)) (Ok tt)
      (Some l.initial.users) l.initial.hub l.initial.store (Some l.users) l.hub l.store;
}
