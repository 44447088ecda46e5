use Rattle.std.proofs.Common.{rules}
use Rattle.std.proofs.lemmas.Map.Made.{map_same_pairs}
use Rattle.ssi_versions.specs.Machinery.Keyed.{kept_vec}
use Rattle.ssi_versions.proofs.keyed.compact_all.Goals as goal

pub returns-clause-kept : goal.returns-clause-kept
returns-clause-kept c = map_same_pairs _ (kept_vec c.args.snapshots.now.stamps.now) _ (λ k v b w f' t. Prim.search rules) _ _ c.retain.ensures.filtered
