use Rattle.std.proofs.Common.{◌≡◌, take}
use Rattle.lists_cli.specs.Meaning.Rests.{of_committed, reads_of}
use Rattle.lists_cli.proofs.basis.reads.Given as goal

abbrev pub invariant-loop-transaction : goal.invariant-loop-transaction
invariant-loop-transaction l = l.all ≡ of_committed reads_of (take l.transaction-index l.transactions)
