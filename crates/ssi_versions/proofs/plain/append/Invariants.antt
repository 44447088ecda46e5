use Rattle.std.proofs.Common.{◌≡◌, ◌++◌, ◌≤◌, ◌-◌, ◌+◌, length, take, map, vec_len, vec_capacity}
use Rattle.ssi_versions.specs.Machinery.Plain.{as_held}
use Rattle.ssi_versions.proofs.plain.append.Given as goal

abbrev pub invariant-writes : goal.invariant-writes
invariant-writes l = record {
  kept : l.items.items ≡ l.fn.items.items ++ map (as_held l.stamp) (take l.write-index l.writes);
  room : vec_len l.items + (length l.writes - l.write-index) ≤ vec_capacity l.items;
}
