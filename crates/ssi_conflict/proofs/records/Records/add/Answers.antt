use Rattle.std.proofs.Common.{◌≡◌, ◌≢◌, ℕ, Some, is_some, option_map, ap, sym, ◌∙◌}
use Rattle.std.specs.BTreeMap.{get}
use Rattle.std.specs.Ordering.{nat_cmp}
use Rattle.slab.specs.Slab.{Slab, get as held}
use Rattle.ssi_conflict.specs.declared.record.Record.{Record}
use Rattle.ssi_conflict.specs.Machinery.Slots.{at_slot}
use Rattle.ssi_conflict.specs.Machinery.Records.{row_of}
use Rattle.ssi_conflict.proofs.RecordSlots.{put_here, apart_added, taken_added, rows_added}
use Rattle.ssi_conflict.proofs.records.Records.add.Goals as goal

pub invariant_of-self-in_default : goal.invariant_of-self-in_default
invariant_of-self-in_default c =
    let m = c.args.self.now in
    let i = c.insert_reserved-at.result in
    let h = held c.insert_reserved-at.new.self in
    let room : (j : ℕ) → held c.reserve.new.self j ≡ held m.records j = λ j. ap (λ (s : Slab Record). held s j)
    c.reserve.ensures.rest_kept in
    let same : (j : ℕ) → j ≢ i → h j ≡ held m.records j = λ j ne. c.insert_reserved-at.ensures.updates.others j ne ∙
    room j in
    let vacant = sym (room i) ∙ c.insert_reserved-at.ensures.was_vacant in
    record {
      apart = apart_added (get nat_cmp m.slots) (held m.records) h m.apart m.taken c.args.txn i vacant same _
          c.in_default.ensures.updates.0;
      taken = taken_added (get nat_cmp m.slots) (held m.records) h m.apart m.taken c.args.txn i vacant same _
          c.in_default.ensures.updates.0 (ap is_some c.insert_reserved-at.ensures.updates.changed);
    }

pub returns-clause-added : goal.returns-clause-added
returns-clause-added c =
    let m = c.args.self.now in
    let i = c.insert_reserved-at.result in
    let h = held c.insert_reserved-at.new.self in
    let room : (j : ℕ) → held c.reserve.new.self j ≡ held m.records j = λ j. ap (λ (s : Slab Record). held s j)
    c.reserve.ensures.rest_kept in
    let same : (j : ℕ) → j ≢ i → h j ≡ held m.records j = λ j ne. c.insert_reserved-at.ensures.updates.others j ne ∙
    room j in
    let vacant = sym (room i) ∙ c.insert_reserved-at.ensures.was_vacant in
    record {
      here = ap (λ o. option_map row_of (at_slot o h)) (put_here (get nat_cmp m.slots) _ c.args.txn (Some i)
          c.in_default.ensures.updates.0) ∙ ap (option_map row_of) c.insert_reserved-at.ensures.updates.changed;
      others = λ x ne. ap (option_map row_of) (rows_added (get nat_cmp m.slots) (held m.records) h m.apart m.taken
          c.args.txn i vacant same _ c.in_default.ensures.updates.0 x ne);
    }
