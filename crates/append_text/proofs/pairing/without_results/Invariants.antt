use Rattle.std.proofs.Common.{◌≡◌, map, take}
use Rattle.append_values.specs.Meaning.Histories.{operation_of}
use Rattle.append_text.specs.Meaning.Steps.{without_result}
use Rattle.append_text.proofs.pairing.without_results.Given as goal

abbrev pub invariant-loop-step : goal.invariant-loop-step
invariant-loop-step l =
    map operation_of l.kept.items ≡ map without_result (map operation_of (take l.step-index l.steps))
