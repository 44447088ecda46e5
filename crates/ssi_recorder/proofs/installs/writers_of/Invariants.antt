use Rattle.std.proofs.Common.{◌≡◌, ◌++◌, map, drop}
use Rattle.ssi_recorder.proofs.installs.writers_of.Given as goal

abbrev pub invariant-versions : goal.invariant-versions
invariant-versions l =
    l.writers.items ++ map (λ w. w.version.txn) (drop l.entry-index l.versions) ≡ map (λ w. w.version.txn) l.versions
