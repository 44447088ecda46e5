use Rattle.std.proofs.Common.{rules, ◌≡◌, Some, ap}
use Rattle.std.specs.BTreeMap.{get}
use Rattle.std.specs.Ordering.{nat_cmp}
use Rattle.slab.specs.Slab.{get as held, with_value}
use Rattle.slab.proofs.SlabLemmas.{Updates-with_value}
use Rattle.ssi_conflict.specs.Machinery.Rows.{closed}
use Rattle.ssi_conflict.specs.Machinery.Records.{row_of}
use Rattle.ssi_conflict.proofs.RecordSlots.{row_set}
use Rattle.ssi_conflict.proofs.records.Records.close.Goals as goal

pub returns-in-Some-get_mut : goal.returns-in-Some-get_mut
returns-in-Some-get_mut c =
    let m = c.args.self.now in
    let i = c.in-Some.at.now in
    let r = c.in-Some-get_mut.kept.now in
    let old : get nat_cmp m.slots c.args.txn ≡ Some i = search rules in
    let value : held m.records i ≡ Some r = search rules in
    let new = record r { stamp = Some c.args.stamp; keys = c.swap.new.x } in
    let w = Updates-with_value m.records i new (m.taken c.args.txn i old) in
    row_set (get nat_cmp m.slots) (held m.records) (held (with_value m.records i new)) m.apart m.taken c.args.txn i
    old w.others
    (closed c.args.stamp c.args.keys.now.items) r new value w.changed
    (ap (λ v. record (row_of r) { stamp = Some c.args.stamp; keys = v.items }) c.swap.ensures.x_after)
