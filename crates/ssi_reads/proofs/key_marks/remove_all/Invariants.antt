use Rattle.std.proofs.Common.{◌≡◌, ◌≢◌, ℕ, List}
use Rattle.ssi_reads.specs.Machinery.Indexed.{indexed}
use Rattle.ssi_reads.proofs.key_marks.remove_all.Given as goal

abbrev pub invariant-loop-key : goal.invariant-loop-key
invariant-loop-key l = (k : List ℕ) (u : ℕ) → u ≢ l.txn → indexed l.txns k u ≡ indexed l.fn.txns k u
