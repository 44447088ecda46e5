use Rattle.std.proofs.Common.{◌≡◌, true, false, ℕ, List, length, leb, rules, subst, le_of_eq, ap}
use Rattle.std.specs.List.Sorted.{IsPartitionPoint}
use Rattle.std.proofs.lemmas.List.Sorted.{IsPartitionPoint-from_clause, IsPartitionedBy-leb}
use Rattle.adya_dsg.specs.Machinery.VersionOrders.{ordered_history}
use Rattle.adya_dsg.specs.Machinery.Choices.{key_at}
use Rattle.adya_dsg.proofs.LineChanges.{places_rise}
use Rattle.adya_dsg.proofs.version_orders.VersionOrders.changes_up_to.Goals as goal

pub returns-then-are_up_to-clause-up_to : goal.returns-then-are_up_to-clause-up_to
returns-then-are_up_to-clause-up_to c =
    let qs = c.changes-changes.result.now in
    let p = c.args.place in
    let rise = places_rise (ordered_history c.args.self.now) (key_at (ordered_history c.args.self.now) c.args.line) qs c.changes-changes.ensures in
    subst (λ (zs : List ℕ). IsPartitionPoint (λ q. leb q p ≡ true) (λ q. leb q p ≡ false) zs (length qs)) c.changes-changes.ensures
    (c.are_up_to.ensures c.if-are_up_to.true rise)

pub returns-clause-up_to : goal.returns-clause-up_to
returns-clause-up_to c =
    let qs = c.changes-changes.result.now in
    let p = c.args.place in
    let rise = places_rise (ordered_history c.args.self.now) (key_at (ordered_history c.args.self.now) c.args.line) qs c.changes-changes.ensures in
    let parted = IsPartitionedBy-leb (λ (q : ℕ). q) qs p rise in
    subst (λ (zs : List ℕ). IsPartitionPoint (λ q. leb q p ≡ true) (λ q. leb q p ≡ false) zs c.partition_point.result) c.changes-changes.ensures
    (IsPartitionPoint-from_clause (λ (q : ℕ). leb q p) _ _ c.partition_point.ensures.partitioned parted (λ a r q k. search rules))

pub changes-changes-requires-clause-scans : goal.changes-changes-requires-clause-scans
changes-changes-requires-clause-scans c = c.requires.scans

pub changes-changes-requires-clause-within : goal.changes-changes-requires-clause-within
changes-changes-requires-clause-within c = c.requires.within

pub are_up_to-requires : goal.are_up_to-requires
are_up_to-requires c = tt

pub returns-then-are_up_to-clause-within : goal.returns-then-are_up_to-clause-within
returns-then-are_up_to-clause-within c = le_of_eq (ap length c.changes-changes.ensures)
