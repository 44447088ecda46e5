use Rattle.std.proofs.Common.{◌≡◌, true, false, nat_lt, ltb-true, ltb-false, arith, rules}
use Rattle.std.specs.List.Sorted.{IsPartitionPoint}
use Rattle.std.proofs.lemmas.List.Sorted.{IsPartitionPoint-from_clause, IsPartitionedBy-ltb}
use Rattle.digraph.specs.declared.arc.Arc.{Arc}
use Rattle.digraph.proofs.incoming.first_into.Goals as goal

parted : (c : goal.After-partition_point)
    → IsPartitionPoint (λ (a : Arc). nat_lt a.to c.args.to ≡ true) (λ a. nat_lt a.to c.args.to ≡ false) c.args.arcs.now c.partition_point.result
parted c =
    IsPartitionPoint-from_clause (λ (a : Arc). nat_lt a.to c.args.to) _ _ c.partition_point.ensures.partitioned
    (IsPartitionedBy-ltb (λ (a : Arc). a.to) c.args.arcs.now c.args.to c.requires) (λ a r q k. search rules)

pub returns-clause-below : goal.returns-clause-below
returns-clause-below c k d l = ltb-true _ _ ((parted c).0 k d (omega arith) l)

pub returns-clause-above : goal.returns-clause-above
returns-clause-above c k d l m = ltb-false _ _ ((parted c).1 k d l m)
