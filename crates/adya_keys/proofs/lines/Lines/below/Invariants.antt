-- The keys before the one place are below the key, and those from the other place on aren't.
use Rattle.std.proofs.Common.{◌≡◌, ◌-◌, ◌<◌, ◌≤◌, ℕ, Some, false, length, map, slice_get, true}
use Rattle.adya_keys.specs.Meaning.Keys.{key_lt, keys_rise, Key}
use Rattle.adya_keys.specs.Machinery.Lines.{lines_of}
use Rattle.adya_keys.proofs.lines.Lines.below.Given as goal

pub record IsBetween (g : goal.Over) (l : goal.Live-loop-low g) : Type 0 where
  pub order : l.low ≤ l.high
  pub within : l.high ≤ length (lines_of l.self)
  pub below : keys_rise (map (λ p. p.0) (lines_of l.self)) ≡ true → (i : ℕ) (j : Key) → i < l.low → slice_get (map (λ p. p.0) (lines_of l.self)) i ≡ Some j → key_lt j l.key ≡ true
  pub others : keys_rise (map (λ p. p.0) (lines_of l.self)) ≡ true → (i : ℕ) (j : Key) → l.high ≤ i → slice_get (map (λ p. p.0) (lines_of l.self)) i ≡ Some j → key_lt j l.key ≡ false

abbrev pub invariant-loop-low : goal.invariant-loop-low
invariant-loop-low g l = IsBetween g l

abbrev pub decreases-loop-low : goal.decreases-loop-low
decreases-loop-low g l = l.high - l.low
