use Rattle.std.proofs.Common.{◌≡◌, map, option_map, take, IfSome}
use Rattle.ssi_versions.specs.Mirror.{write_of}
use Rattle.ssi_snapshot.specs.Clauses.Listings.{keys}
use Rattle.ssi_store.specs.Machinery.Overtaken.{is_passed, passed_by, key_of, IsLeast}
use Rattle.ssi_store.proofs.overtaken.least_overtaken.Given as goal

abbrev pub invariant-writes : goal.invariant-writes
invariant-writes g l =
    IsLeast (is_passed l.stamp (g.C.Chains.held l.chains)) (keys (map write_of (take l.write-index l.writes))) (option_map key_of l.least) ×
    IfSome l.least (λ o. o.writer ≡ passed_by o.key (g.C.Chains.held l.chains))
