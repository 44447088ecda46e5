use Rattle.std.proofs.Common.{◌≡◌, ◌-◌, ℕ, List, true, drop}
use Rattle.ssi_versions.specs.Meaning.Changes.{otherwise}
use Rattle.ssi_snapshot.specs.Machinery.Stored.{are_keyed, entry_key, stored_at}
use Rattle.ssi_snapshot.proofs.Merging.{own_in}
use Rattle.ssi_snapshot.proofs.merge.put_own.Given as goal

abbrev pub invariant-back : goal.invariant-back
invariant-back l = record {
  stored : (key : List ℕ) → stored_at key l.seen.entries ≡ otherwise (own_in l.low l.high key (drop (l.n - l.k) l.writes)) (stored_at key l.fn.seen.entries);
  keyed : are_keyed entry_key l.fn.seen.entries ≡ true → are_keyed entry_key l.seen.entries ≡ true;
}
