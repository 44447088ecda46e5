use Rattle.std.proofs.Common.{◌≡◌, ◌≤◌, length, None}
use Rattle.edn.specs.Computing.Gaps.{after_gap_in}
use Rattle.edn.proofs.gap.after_gap.Given as goal

abbrev pub invariant-loop-rest : goal.invariant-loop-rest
invariant-loop-rest l = (after_gap_in None l.rest ≡ after_gap_in None l.text) × (length l.rest ≤ length l.text)

abbrev pub decreases-loop-rest : goal.decreases-loop-rest
decreases-loop-rest l = length l.rest
