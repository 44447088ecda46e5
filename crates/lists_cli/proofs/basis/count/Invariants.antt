use Rattle.std.proofs.Common.{◌≡◌, take, count_by}
use Rattle.lists_cli.specs.Meaning.Rests.{has_outcome}
use Rattle.lists_cli.proofs.basis.count.Given as goal

abbrev pub invariant-loop-transaction : goal.invariant-loop-transaction
invariant-loop-transaction l = l.count ≡ count_by (has_outcome l.outcome) (take l.transaction-index l.transactions)
