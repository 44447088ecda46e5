use Rattle.std.proofs.Common.{◌≡◌, ◌++◌, ◌+◌, ◌≤◌, ℕ, List, take, map, length, true}
use Rattle.std.specs.List.{AllWithin}
use Rattle.ssi_versions.specs.Mirror.{held_of, chain_of}
use Rattle.ssi_versions.specs.Machinery.Plain.{as_held}
use Rattle.ssi_versions.specs.Machinery.Keyed.{held_at, is_owned, versions, filled_count, HasRoomAt}
use Rattle.ssi_versions.proofs.keyed.put_all.Given as goal

abbrev pub invariant-writes : goal.invariant-writes
invariant-writes l = record {
  added : (q : List ℕ) → held_at q l.chains.entries ≡ held_at q l.fn.chains.entries ++ chain_of q (map held_of (map (as_held l.stamp) (take l.write-index l.writes)));
  room : AllWithin (λ w. HasRoomAt l.chains.entries w.0.key) l.writes l.write-index (length l.writes);
  owned : is_owned l.chains.entries ≡ true;
  count : length (versions l.chains.entries) ≡ length (versions l.fn.chains.entries) + l.write-index;
  filled : filled_count l.chains.entries ≡ filled_count l.fn.chains.entries + l.opened;
  small : l.opened ≤ l.write-index;
}
