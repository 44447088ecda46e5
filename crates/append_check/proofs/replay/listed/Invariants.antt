use Rattle.std.proofs.Common.{◌≡◌, ◌==◌, ℕ, length, take, count_by}
use Rattle.append_check.specs.Machinery.Running.{flag}
use Rattle.append_check.proofs.replay.listed.Given as goal

abbrev pub invariant-order : goal.invariant-order
invariant-order l = record {
  sized : length l.listed.items ≡ l.count;
  flags : (t : ℕ) → count_by (λ u. u == t) (take l.place-index l.order) ≡ flag l.listed.items t;
}
