use Rattle.std.proofs.Common.{◌≡◌, ◌+◌, length}
use Rattle.std.specs.List.{flat_map}
use Rattle.ssi_versions.specs.Machinery.Keyed.{held_in, versions}
use Rattle.ssi_versions.proofs.keyed.count.Given as goal

abbrev pub invariant-chains : goal.invariant-chains
invariant-chains l = l.total + length (flat_map held_in l.chain-iterator) ≡ length (versions l.fn.chains.entries)
