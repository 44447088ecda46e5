use Rattle.std.proofs.Common.{map, take}
use Rattle.std.specs.List.{AllZip}
use Rattle.append_text.specs.Meaning.Operations.{each, step}
use Rattle.append_text.specs.Machinery.Readings.{IsRead, IsStepValue}
use Rattle.append_text.proofs.operation.steps.Given as goal

abbrev pub invariant-loop-datum : goal.invariant-loop-datum
invariant-loop-datum g l = IsRead l.initial.names.kept.keys l.names.kept.keys
    (each (step g.D.Data.notation) (map g.D.Data.form (take l.datum-index l.listed))) (λ kept. AllZip (IsStepValue kept)) l.steps.items
