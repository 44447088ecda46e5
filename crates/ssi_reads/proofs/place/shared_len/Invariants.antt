use Rattle.std.proofs.Common.{◌≡◌, length, drop, ◌+◌}
use Rattle.ssi_reads.specs.Machinery.Prefixes.{shared}
use Rattle.ssi_reads.proofs.place.shared_len.Given as goal

abbrev pub invariant-loop-len : goal.invariant-loop-len
invariant-loop-len l = length (shared l.low l.high) ≡ l.len + length (shared (drop l.len l.low) (drop l.len l.high))
