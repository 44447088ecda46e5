use Rattle.std.proofs.Common.{◌≡◌, ℕ, List, cond, Some, drop}
use Rattle.ssi_conflict.proofs.writes.Writes.add.Given as goal
use Rattle.ssi_conflict.specs.Machinery.Index.{writer_in, is_one_of}

-- what is still to be added, to what is there, is all that is to be added
abbrev pub invariant-loop-key : goal.invariant-loop-key
invariant-loop-key l = (k : List ℕ) (a : ℕ) →
    cond (is_one_of (drop l.key-index l.keys) l.before k a) (Some l.txn) (writer_in l.self k a) ≡ cond
    (is_one_of l.keys l.before k a) (Some l.txn) (writer_in l.fn.self k a)
