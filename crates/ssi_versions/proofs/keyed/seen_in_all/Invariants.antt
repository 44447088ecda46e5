use Rattle.std.proofs.Common.{◌≡◌, ◌++◌, map}
use Rattle.std.specs.Map.{values_of}
use Rattle.ssi_versions.specs.Mirror.{held_of}
use Rattle.ssi_versions.specs.Machinery.Keyed.{StandByStamp, seen_in}
use Rattle.ssi_versions.proofs.keyed.seen_in_all.Given as goal

abbrev pub invariant-chains : goal.invariant-chains
invariant-chains l = record {
  rising : StandByStamp l.chain-iterator;
  found : map held_of l.found.items ++ seen_in l.stamp l.chain-iterator ≡ seen_in l.stamp (values_of l.chains.entries);
}
