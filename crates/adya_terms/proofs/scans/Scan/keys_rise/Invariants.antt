-- The keys before the index rise, so they all do if those from the one before it on do.
use Rattle.std.proofs.Common.{◌≡◌, ◌-◌, ◌≤◌, drop, map}
use Rattle.adya_keys.specs.Meaning.Keys.{keys_rise}
use Rattle.adya_terms.proofs.Bounds.{entry_key}
use Rattle.adya_terms.proofs.scans.Scan.keys_rise.Given as goal

pub record HaveRisen (l : goal.Live-loop-i) : Type 0 where
  pub begun : 1 ≤ l.i
  pub risen : keys_rise (map (entry_key l.self) l.self.seen.now) ≡ keys_rise (drop (l.i - 1) (map (entry_key l.self) l.self.seen.now))

abbrev pub invariant-loop-i : goal.invariant-loop-i
invariant-loop-i l = HaveRisen l
