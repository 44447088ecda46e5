use Rattle.std.proofs.Common.{◌≡◌, ◌≤◌, length}
use Rattle.edn.specs.Computing.Gaps.{after_line}
use Rattle.edn.proofs.gap.after_line.Given as goal

abbrev pub invariant-loop-rest : goal.invariant-loop-rest
invariant-loop-rest l = (after_line l.rest ≡ after_line l.text) × (length l.rest ≤ length l.text)

abbrev pub decreases-loop-rest : goal.decreases-loop-rest
decreases-loop-rest l = length l.rest
