-- What is gone from `rest` was appended, and nothing failed since; a device that had failed is as it was.
use Rattle.std.proofs.Common.{◌≡◌, List, ℕ, true, ◌++◌, length}
use Rattle.std.specs.Io.KnownBytes.{Appends}
use Rattle.devices.specs.Mirror.{has_failed, reads_left, watched_contents}
use Rattle.devices.proofs.watched.WatchedWrite.write_all.Given as goal

abbrev pub invariant-loop-rest : goal.invariant-loop-rest
invariant-loop-rest g l =
    (has_failed l.self ≡ has_failed l.initial.self)
    × (reads_left l.self ≡ reads_left l.initial.self)
    × (has_failed l.initial.self ≡ true → l.self ≡ l.initial.self)
    × ((done : List ℕ) × (l.initial.rest ≡ done ++ l.rest)
    × Appends (watched_contents g.D.Write.contents l.initial.self) (watched_contents g.D.Write.contents l.self) done)

abbrev pub decreases-loop-rest : goal.decreases-loop-rest
decreases-loop-rest g l = length l.rest
