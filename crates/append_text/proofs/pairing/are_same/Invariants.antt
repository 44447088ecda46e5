use Rattle.std.proofs.Common.{◌≡◌, map, take}
use Rattle.append_values.specs.Meaning.Histories.{operation_of}
use Rattle.append_text.specs.Meaning.Steps.{without_result}
use Rattle.append_text.proofs.pairing.are_same.Given as goal

abbrev pub invariant-loop-i : goal.invariant-loop-i
invariant-loop-i l =
    map without_result (map operation_of (take l.i l.some)) ≡ map without_result (map operation_of (take l.i l.others))
