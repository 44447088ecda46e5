use Rattle.std.proofs.Common.{◌≡◌, ◌-◌, None, drop, map}
use Rattle.ssi_versions.specs.Clauses.ByStamp.{newest_within}
use Rattle.ssi_versions.specs.Mirror.{held_of, chain_of}
use Rattle.ssi_versions.proofs.plain.newest_at.Given as goal

abbrev pub invariant-back : goal.invariant-back
invariant-back l = newest_within l.stamp (chain_of l.key (map held_of (drop (l.n - l.k) l.items))) ≡ None
