use Rattle.std.proofs.Common.{◌≡◌, ℕ, List}
use Rattle.std.specs.List.{AllWithin}
use Rattle.ssi_versions.specs.Machinery.Keyed.{held_at, versions, is_owned, filled_count, HasRoomAt}
use Rattle.ssi_versions.proofs.keyed.make_room_for.Given as goal

abbrev pub invariant-writes : goal.invariant-writes
invariant-writes l = record {
  same : (q : List ℕ) → held_at q l.chains.entries ≡ held_at q l.fn.chains.entries;
  room : AllWithin (λ w. HasRoomAt l.chains.entries w.0.key) l.writes 0 l.write-index;
  versions : versions l.chains.entries ≡ versions l.fn.chains.entries;
  owned : is_owned l.chains.entries ≡ is_owned l.fn.chains.entries;
  filled : filled_count l.chains.entries ≡ filled_count l.fn.chains.entries;
}
