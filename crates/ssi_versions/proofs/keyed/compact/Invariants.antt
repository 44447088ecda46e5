use Rattle.std.proofs.Common.{◌≡◌, ◌≤◌, ◌++◌, take, drop, length}
use Rattle.ssi_versions.specs.Machinery.Keyed.{kept_places}
use Rattle.ssi_versions.proofs.keyed.compact.Given as goal

abbrev pub invariant-chain : goal.invariant-chain
invariant-chain l = record {
  behind : l.to ≤ l.i;
  len : length l.chain ≡ length l.fn.chain;
  front : take l.to l.chain ++ kept_places l.snapshots.stamps.now (drop l.i l.chain) ≡ kept_places l.snapshots.stamps.now l.fn.chain;
}
