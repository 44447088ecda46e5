use Rattle.std.proofs.Common.{◌≡◌, w64, arith}
use Rattle.std.proofs.lemmas.Int.{to_z-of_z, ints}
use mir.Val.{to_z, of_z}
use Rattle.append_text.proofs.Readings.{read_operation}
use Rattle.append_text.proofs.operation.operation.Goals as goal

pub returns : goal.returns
returns g c =
    let same : to_z w64 (of_z w64 c.in-Some-process_in.process) ≡ c.in-Some-process_in.process =
    grind (arith, ints, to_z-of_z, rw c.in-Some-process_in.is at c.process_in.type_inv) in
    read_operation g.D.Data.notation c.args.number g.D.Data.form c.in-Some.fields (g.D.Data.form c.args.datum)
    c.args.names.now.kept.keys c.steps_in.new.names.kept.keys (record {
      kind = c.in-Some-kind_in.kind;
      label = record { index = c.index_in.result; process = to_z w64 (of_z w64 c.in-Some-process_in.process) };
      steps = c.in_ok-steps.steps;
    }) c.in-Some-process_in.process c.in-Some.ensures.some c.in-Some-process_in.ensures c.in-Some-kind_in.ensures c.index_in.ensures
    same c.in_ok-steps.ensures
