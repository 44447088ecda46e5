-- Each byte is as it may be left, and those that come later are as they were.
use Rattle.std.proofs.Common.{◌≡◌, ◌⊎◌, ◌<◌, ◌≤◌, ℕ, length, get_or}
use Rattle.disk_testing.proofs.mixing.choose.Given as goal

abbrev pub invariant-loop-i : goal.invariant-loop-i
invariant-loop-i l = record {
  size : length l.bytes.items ≡ length l.fn.bytes.items;
  within : l.to ≤ length l.bytes.items;
  each : (k : ℕ) → k < length l.synced
      → (get_or l.bytes.items k 0 ≡ get_or l.synced k 0) ⊎ (get_or l.bytes.items k 0 ≡ get_or l.fn.bytes.items k 0);
  later : (k : ℕ) → l.i ≤ k → get_or l.bytes.items k 0 ≡ get_or l.fn.bytes.items k 0;
}
