use Rattle.std.proofs.Common.{arith, rules, length, nat_le, ◌≡◌, false, ◌-◌, subst, get_or}
use Rattle.std.proofs.lemmas.List.{get_or_default}
use Rattle.std.specs.List.{AllWithin}
use Rattle.std.proofs.lemmas.List.Sorted.{IsPartitionPoint-from_clause}
use Rattle.ssi_versions.proofs.Rising.{seen_first, seen_before, none_from}
use Rattle.ssi_versions.proofs.keyed.sought_at.Goals as goal

pub returns-then-n-eq0 : goal.returns-then-n-eq0
returns-then-n-eq0 c =
    let parts = IsPartitionPoint-from_clause (λ p. nat_le p.held.stamp c.args.stamp) _ _ c.partition_point-n.ensures.partitioned
    (seen_first c.args.stamp c.args.chain.now c.requires) (λ a r q k. Prim.search rules) in
    none_from c.args.stamp c.args.chain.now
    (subst (λ n. AllWithin (λ p. nat_le p.held.stamp c.args.stamp ≡ false) c.args.chain.now n (length c.args.chain.now)) (Prim.search rules) parts.1)

pub returns : goal.returns
returns c =
    let parts = IsPartitionPoint-from_clause (λ p. nat_le p.held.stamp c.args.stamp) _ _ c.partition_point-n.ensures.partitioned
    (seen_first c.args.stamp c.args.chain.now c.requires) (λ a r q k. Prim.search rules) in
    seen_before c.args.stamp c.args.chain.now (c.partition_point-n.result - 1) c.partition_point-n.result
    (get_or c.args.chain.now (c.partition_point-n.result - 1) c.index-chain-n.result) (omega arith) (omega arith)
    (get_or_default c.args.chain.now (c.partition_point-n.result - 1) c.index-chain-n.result _ (omega arith)) parts.0 parts.1
