-- What a crash may leave of a file that is kept in memory.
use Rattle.std.specs.Prelude.{◌≡◌, ◌⊎◌, ◌≤◌, ◌<◌, ℕ, List, length, slice_index, refl}
use Rattle.std.proofs.Common.{inr, le_refl}

-- each byte that was synced is as it was then or as a read returns it; after these there is anything, up to the end of the file
pub record MayLeave (synced seen left : List ℕ) : Type 0 where
  pub no_shorter : length synced ≤ length left
  pub no_longer : length left ≤ length seen
  pub each : (i : ℕ) → i < length synced
      → (slice_index left i ≡ slice_index synced i) ⊎ (slice_index left i ≡ slice_index seen i)

-- what a read returns is one of the outcomes
pub seen_stays : (synced seen : List ℕ) → length synced ≤ length seen → MayLeave synced seen seen
seen_stays synced seen grown = record { no_shorter = grown; no_longer = le_refl (length seen); each = λ i low. inr refl }
