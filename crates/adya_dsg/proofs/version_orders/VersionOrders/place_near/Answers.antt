use Rattle.std.proofs.Common.{suc, slice_get, sym, ◌∙◌, ap, add-one, arith}
use Rattle.std.proofs.lemmas.Option.{slice_get_within}
use Rattle.lemmas.proofs.Options.{none_from}
use Rattle.adya_values.specs.Computing.Faults.{first_fault}
use Rattle.adya_dsg.specs.Machinery.Choices.{key_at}
use Rattle.adya_dsg.specs.Machinery.VersionOrders.{ordered_history}
use Rattle.adya_dsg.proofs.NamedOnce.{named_at}
use Rattle.adya_dsg.proofs.version_orders.VersionOrders.place_near.Goals as goal

pub returns-in-Some : goal.returns-in-Some
returns-in-Some c =
    let g = c.args.self.now in
    let h = ordered_history g in
    let i = c.in-Some.index in
    let is_checked = c.checked_iff_no_fault.ensures.sound h (none_from (first_fault h) g.checked.now.checked) in
    let there = ap (λ ws. slice_get ws i) (sym c.writers.ensures) ∙ c.in-Some.ensures in
    add-one i ∙ ap suc (sym (named_at h is_checked (key_at h c.args.line) c.args.txn i there))

pub checked_iff_no_fault-requires : goal.checked_iff_no_fault-requires
checked_iff_no_fault-requires c = tt

pub writers-requires : goal.writers-requires
writers-requires c = c.requires

pub near-requires : goal.near-requires
near-requires c = tt

pub place-requires : goal.place-requires
place-requires c = c.requires

pub returns-in-None : goal.returns-in-None
returns-in-None c = c.place.ensures

pub overflow_add-result : goal.overflow_add-result
overflow_add-result c =
    let less = slice_get_within c.writers.result.now c.in-Some.index c.args.txn c.in-Some.ensures in
    record { fits = omega (arith, less) }
