use Rattle.std.proofs.Common.{map, take}
use Rattle.std.specs.List.{AllZip}
use Rattle.append_text.specs.Meaning.Numbers.{IsNumber}
use Rattle.append_text.specs.Meaning.Operations.{each, name}
use Rattle.append_text.specs.Machinery.Readings.{IsRead}
use Rattle.append_text.proofs.operation.numbers.Given as goal

abbrev pub invariant-loop-datum : goal.invariant-loop-datum
invariant-loop-datum g l = IsRead l.initial.names.kept.keys l.names.kept.keys
    (each name (map g.D.Data.form (take l.datum-index l.listed))) (λ kept. AllZip (IsNumber kept)) l.numbers.items
