use Rattle.std.proofs.Common.{List}
use Rattle.std.specs.VecDeque.{deque_len}
use Rattle.ssi_conflict.specs.Meaning.Calls.{Call}
use Rattle.ssi_conflict.specs.Mirror.{Holds}
use Rattle.ssi_conflict.proofs.tracker.Tracker.retire.Given as goal

abbrev pub invariant-loop-txn : goal.invariant-loop-txn
invariant-loop-txn g l =
    (calls : List Call) → Holds g.M.Marks.marked l.fn.self calls → Holds g.M.Marks.marked l.self calls

abbrev pub decreases-loop-txn : goal.decreases-loop-txn
decreases-loop-txn g l = deque_len l.self.table.closed
