use Rattle.std.proofs.Common.{map, drop}
use Rattle.append_values.specs.Meaning.Histories.{operation_of}
use Rattle.append_check.specs.Machinery.Running.{lists_of}
use Rattle.append_check.proofs.Running.{Goes}
use Rattle.append_check.proofs.lists.Lists.steps.Given as goal

abbrev pub invariant-steps : goal.invariant-steps
invariant-steps l = Goes l.claims (lists_of l.fn.self) (lists_of l.self) (map operation_of l.operations) (drop l.operation-index (map operation_of l.operations))
