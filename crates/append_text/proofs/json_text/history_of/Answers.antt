use Rattle.std.proofs.Common.{arith, sym, subst, take}
use Rattle.append_text.specs.Machinery.JsonReading.{IsRefusedElement}
use Rattle.append_text.proofs.JsonReadings.{forms_in, refused_element}
use Rattle.append_text.proofs.json_text.history_of.Goals as goal

pub returns-in-Err-clause-fault : goal.returns-in-Err-clause-fault
returns-in-Err-clause-fault c =
    let vs = c.args.values.now in
    let k = c.loop-place.place in
    subst (IsRefusedElement (forms_in vs)) (sym c.at.ensures) (refused_element vs k c.index-values-place.result c.in-Err.refusal
    (omega arith) c.index-values-place.is (c.in-Err.ensures.refused (forms_in (take k vs)) c.loop-place.invariant))
