use Rattle.std.proofs.Common.{length, sym, ◌∙◌, ap, arith}
use Rattle.std.proofs.lemmas.Bool.{lt-leb}
use Rattle.adya_dsg.specs.Machinery.VersionOrders.{ordered_history}
use Rattle.adya_dsg.specs.Machinery.Choices.{key_at}
use Rattle.adya_dsg.proofs.Visibility.{visible_by, not_visible}
use Rattle.adya_dsg.proofs.version_orders.VersionOrders.is_visible.Goals as goal

pub returns-then-place-writers : goal.returns-then-place-writers
returns-then-place-writers c =
    let h = ordered_history c.args.self.now in
    let k = key_at h c.args.line in
    let n = ap length c.writers.ensures in
    let l = c.if-place-writers.true in
    sym (visible_by h k c.args.place c.changes_up_to.result (omega (arith, n, l)) c.changes_up_to.ensures.within c.changes_up_to.ensures.up_to)

pub returns-else-place-writers : goal.returns-else-place-writers
returns-else-place-writers c =
    let h = ordered_history c.args.self.now in
    let k = key_at h c.args.line in
    let n = ap length c.writers.ensures in
    let l = c.if-place-writers.false in
    lt-leb c.args.place (length c.writers.result.now) l ∙ sym (not_visible h k c.args.place (omega (arith, n, l)))
