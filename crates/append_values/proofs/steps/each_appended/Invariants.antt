use Rattle.std.proofs.Common.{◌≡◌, ◌++◌, drop}
use Rattle.std.specs.List.{filter_map}
use Rattle.append_values.specs.Meaning.Histories.{operation_of}
use Rattle.append_values.specs.Machinery.Appended.{appended_by}
use Rattle.append_values.proofs.steps.each_appended.Given as goal

abbrev pub invariant-operations : goal.invariant-operations
invariant-operations l =
    l.elements.items ++ filter_map (λ o. appended_by l.key (operation_of o)) (drop l.operation-index l.operations)
    ≡ filter_map (λ o. appended_by l.key (operation_of o)) l.operations
