use Rattle.std.proofs.Common.{rules, ◌≡◌, Some, None, option_map, ap}
use Rattle.std.specs.BTreeMap.{get}
use Rattle.std.specs.Ordering.{nat_cmp}
use Rattle.slab.specs.Slab.{get as held}
use Rattle.ssi_conflict.specs.Machinery.Slots.{at_slot}
use Rattle.ssi_conflict.specs.Machinery.Records.{row_of}
use Rattle.ssi_conflict.proofs.RecordSlots.{put_here, apart_left, taken_left, rows_left}
use Rattle.ssi_conflict.proofs.records.Records.remove.Goals as goal

pub invariant_of-self-2 : goal.invariant_of-self-2
invariant_of-self-2 c =
    let m = c.args.self.now in
    let old : get nat_cmp m.slots c.args.txn ≡ Some c.in-Some.at = search rules in
    record {
      apart = apart_left (get nat_cmp m.slots) (held m.records) (held c.try_remove.new.self) m.apart m.taken
          c.args.txn c.in-Some.at old c.try_remove.ensures.updates.others _ c.remove.ensures.updates.0;
      taken = taken_left (get nat_cmp m.slots) (held m.records) (held c.try_remove.new.self) m.apart m.taken
          c.args.txn c.in-Some.at old c.try_remove.ensures.updates.others _ c.remove.ensures.updates.0;
    }

pub returns-clause-rows : goal.returns-clause-rows
returns-clause-rows c =
    let m = c.args.self.now in
    let old : get nat_cmp m.slots c.args.txn ≡ Some c.in-Some.at = search rules in
    record {
      here = ap (λ o. option_map row_of (at_slot o (held c.try_remove.new.self)))
          (put_here (get nat_cmp m.slots) _ c.args.txn None c.remove.ensures.updates.0);
      others = λ x ne. ap (option_map row_of) (rows_left (get nat_cmp m.slots) (held m.records)
          (held c.try_remove.new.self) m.apart m.taken c.args.txn c.in-Some.at old c.try_remove.ensures.updates.others
          _ c.remove.ensures.updates.0 x ne);
    }
