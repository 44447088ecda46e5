use Rattle.std.proofs.Common.{◌≡◌, ◌++◌}
use Rattle.ssi_reads.proofs.members.by_number.Given as goal

abbrev pub invariant-members : goal.invariant-members
invariant-members l = l.txns.items ++ l.txn-iterator ≡ l.set.keys
