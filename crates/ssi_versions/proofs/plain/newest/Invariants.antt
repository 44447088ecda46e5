use Rattle.std.proofs.Common.{◌≡◌, ◌-◌, [], drop, map}
use Rattle.ssi_versions.specs.Mirror.{held_of, chain_of}
use Rattle.ssi_versions.proofs.plain.newest.Given as goal

abbrev pub invariant-back : goal.invariant-back
invariant-back l = chain_of l.key (map held_of (drop (l.n - l.k) l.items)) ≡ []
