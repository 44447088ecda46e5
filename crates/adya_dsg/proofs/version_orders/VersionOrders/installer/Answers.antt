use Rattle.std.proofs.Common.{◌-◌, slice_get, sym, ◌∙◌, ap, pos_of_ne-zero}
use Rattle.adya_values.specs.Meaning.Orders.{installer}
use Rattle.adya_dsg.specs.Machinery.VersionOrders.{ordered_history}
use Rattle.adya_dsg.specs.Machinery.Choices.{key_at}
use Rattle.adya_dsg.proofs.Lines.{installer_after}
use Rattle.adya_dsg.proofs.Numbers.{got}
use Rattle.adya_dsg.proofs.version_orders.VersionOrders.installer.Goals as goal

pub returns-then-place-eq0 : goal.returns-then-place-eq0
returns-then-place-eq0 c =
    let h = ordered_history c.args.self.now in
    sym (ap (installer h (key_at h c.args.line)) c.if-place-eq0.true)

pub writers-requires : goal.writers-requires
writers-requires c = c.requires

pub overflow_sub-place : goal.overflow_sub-place
overflow_sub-place c = pos_of_ne-zero c.if-place-eq0.false

pub returns : goal.returns
returns c =
    let h = ordered_history c.args.self.now in
    let i = c.args.place - 1 in
    c.copied.ensures ∙
    (got c.writers.result.now i c.get.result c.get.ensures.lookup.0 c.get.ensures.lookup.1 ∙
    (ap (λ ws. slice_get ws i) c.writers.ensures ∙
    installer_after h (key_at h c.args.line) c.args.place c.if-place-eq0.false))
