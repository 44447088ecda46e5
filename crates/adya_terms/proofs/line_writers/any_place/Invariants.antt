use Rattle.std.proofs.Common.{◌≡◌, drop}
use Rattle.lemmas.proofs.Counts.{count}
use Rattle.adya_terms.proofs.line_writers.any_place.Given as goal

abbrev pub invariant-loop-i : goal.invariant-loop-i
invariant-loop-i l = count l.writers l.txn ≡ count (drop l.i l.writers) l.txn
