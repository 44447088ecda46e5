use Rattle.std.proofs.Common.{◌≡◌, ◌≤◌, length}
use Rattle.edn.specs.Computing.Strings.{with_bytes, quoted_at}
use Rattle.edn.proofs.string.string.Given as goal

abbrev pub invariant-loop-rest : goal.invariant-loop-rest
invariant-loop-rest l =
    (with_bytes l.bytes.items (quoted_at 0 l.rest) ≡ quoted_at 0 l.text) × (length l.rest ≤ length l.text)

abbrev pub decreases-loop-rest : goal.decreases-loop-rest
decreases-loop-rest l = length l.rest
