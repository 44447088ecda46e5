use Rattle.std.proofs.Common.{◌≡◌, take}
use Rattle.lists_cli.specs.Meaning.Rests.{of_committed, elements_of}
use Rattle.lists_cli.proofs.basis.elements.Given as goal

abbrev pub invariant-loop-transaction : goal.invariant-loop-transaction
invariant-loop-transaction l = l.all ≡ of_committed elements_of (take l.transaction-index l.transactions)
