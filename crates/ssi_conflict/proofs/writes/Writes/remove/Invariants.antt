use Rattle.std.proofs.Common.{◌≡◌, ℕ, List, cond, None, drop}
use Rattle.ssi_conflict.proofs.writes.Writes.remove.Given as goal
use Rattle.ssi_conflict.specs.Machinery.Index.{writer_in, is_one_of}

-- what is still to be removed, of what is left, is all that is to be removed
abbrev pub invariant-loop-key : goal.invariant-loop-key
invariant-loop-key l = (k : List ℕ) (a : ℕ) →
    cond (is_one_of (drop l.key-index l.keys) l.before k a) None (writer_in l.self k a) ≡ cond
    (is_one_of l.keys l.before k a) None (writer_in l.fn.self k a)
