use Rattle.std.proofs.Common.{◌≡◌, ◌-◌, ℕ, List, true, map, drop}
use Rattle.ssi_versions.specs.Meaning.Changes.{otherwise, entry_in}
use Rattle.ssi_versions.specs.Mirror.{held_of, found_in}
use Rattle.ssi_snapshot.specs.Machinery.Stored.{are_keyed, entry_key, stored_at}
use Rattle.ssi_snapshot.proofs.merge.put_held.Given as goal

abbrev pub invariant-back : goal.invariant-back
invariant-back l = record {
  stored : (key : List ℕ) → stored_at key l.seen.entries ≡ otherwise (entry_in (found_in key (map held_of (drop (l.n - l.k) l.held)))) (stored_at key l.fn.seen.entries);
  keyed : are_keyed entry_key l.fn.seen.entries ≡ true → are_keyed entry_key l.seen.entries ≡ true;
}
