use Rattle.std.proofs.Common.{◌≡◌, ◌≤◌, ◌++◌, take, drop, length}
use Rattle.ssi_versions.specs.Computing.Kept.{kept_in}
use Rattle.ssi_versions.proofs.plain.compact.Given as goal

abbrev pub invariant-items : goal.invariant-items
invariant-items l = record {
  behind : l.to ≤ l.i;
  len : length l.items.items ≡ length l.fn.items.items;
  front : take l.to l.items.items ++ kept_in l.snapshots (drop l.i l.items.items) ≡ kept_in l.snapshots l.fn.items.items;
}
