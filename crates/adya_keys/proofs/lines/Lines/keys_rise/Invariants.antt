-- The keys before the index rise, so they all do if those from the one before it on do.
use Rattle.std.proofs.Common.{◌≡◌, ◌-◌, ◌≤◌, drop, map}
use Rattle.adya_keys.specs.Meaning.Keys.{keys_rise}
use Rattle.adya_keys.specs.Machinery.Lines.{lines_of}
use Rattle.adya_keys.proofs.lines.Lines.keys_rise.Given as goal

pub record HaveRisen (g : goal.Over) (l : goal.Live-loop-i g) : Type 0 where
  pub begun : 1 ≤ l.i
  pub risen : keys_rise (map (λ p. p.0) (lines_of l.self)) ≡ keys_rise (drop (l.i - 1) (map (λ p. p.0) (lines_of l.self)))

abbrev pub invariant-loop-i : goal.invariant-loop-i
invariant-loop-i g l = HaveRisen g l
