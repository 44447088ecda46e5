use Rattle.std.proofs.Common.{◌≡◌, ◌||◌, ℕ, drop}
use Rattle.std.specs.List.{list_any}
use Rattle.ssi_conflict.proofs.tracker.find_readers.Given as goal
use Rattle.ssi_reads.specs.Clauses.Marks.{has_txn}

abbrev pub invariant-loop-key : goal.invariant-loop-key
invariant-loop-key g l =
    (r : ℕ) → (has_txn l.readers.items r || list_any (g.M.Marks.marked l.marks r) (drop l.key-index l.keys)) ≡
    list_any (g.M.Marks.marked l.marks r) l.keys
