use Rattle.std.proofs.Common.{◌≡◌, ◌≤◌, ◌-◌, drop, map}
use Rattle.ssi_versions.specs.Mirror.{held_of, key_total}
use Rattle.ssi_versions.proofs.plain.key_total.Given as goal

abbrev pub invariant-back : goal.invariant-back
invariant-back l = record {
  total : l.total ≡ key_total (map held_of (drop (l.n - l.k) l.items));
  small : l.total ≤ l.k;
}
