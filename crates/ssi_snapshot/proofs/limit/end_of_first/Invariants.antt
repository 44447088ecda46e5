use Rattle.std.proofs.Common.{◌≡◌, ◌++◌, map, take, drop}
use Rattle.adya_values.specs.Mirror.Events.{entry_of}
use Rattle.ssi_snapshot.specs.Clauses.Listings.{up_to}
use Rattle.ssi_snapshot.proofs.limit.end_of_first.Given as goal

abbrev pub invariant-entries : goal.invariant-entries
invariant-entries l = up_to l.n (map entry_of l.entries) ≡ map entry_of (take l.i l.entries) ++ up_to l.left (map entry_of (drop l.i l.entries))
