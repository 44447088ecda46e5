use Rattle.std.proofs.Common.{◌≡◌, ◌+◌, ◌≤◌, drop}
use Rattle.edn.specs.Meaning.Lines.{feeds}
use Rattle.edn.proofs.input.count_feeds.Given as goal

abbrev pub invariant-bytes : goal.invariant-bytes
invariant-bytes l = (l.count + feeds (drop l.byte-index l.bytes) ≡ feeds l.bytes) × (l.count ≤ l.byte-index)
