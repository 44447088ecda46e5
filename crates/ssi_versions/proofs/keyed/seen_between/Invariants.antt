use Rattle.std.proofs.Common.{◌≡◌, ◌++◌, map}
use Rattle.std.specs.List.{filter_map}
use Rattle.ssi_versions.specs.Clauses.ByStamp.{newest_within}
use Rattle.ssi_versions.specs.Mirror.{held_of}
use Rattle.ssi_versions.specs.Machinery.Keyed.{AreByStamp, held_in, seen_between}
use Rattle.ssi_versions.proofs.keyed.seen_between.Given as goal

abbrev pub invariant-chains : goal.invariant-chains
invariant-chains l = record {
  rising : AreByStamp l.chain-iterator;
  found : map held_of l.found.items ++ filter_map (λ e. newest_within l.stamp (held_in e.1)) l.chain-iterator ≡ seen_between l.fn.low l.fn.high l.stamp l.chains.entries;
}
