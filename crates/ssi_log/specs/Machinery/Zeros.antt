-- Files that are written over zeros.
use Rattle.std.specs.Prelude.{◌≡◌, ◌⊎◌, ℕ, ◌<◌, ◌≤◌, List, length, slice_index}

-- of each byte of the text the byte or zero, the first ones for sure; then zeros up to `room`, and anything beyond
pub record IsOver (text : List ℕ) (sure room : ℕ) (file : List ℕ) : Type 0 where
  pub size : room ≤ length file
  pub first : (i : ℕ) → i < sure → slice_index file i ≡ slice_index text i
  pub each : (i : ℕ) → i < length text → (slice_index file i ≡ slice_index text i) ⊎ (slice_index file i ≡ 0)
  pub zeros : (i : ℕ) → length text ≤ i → i < room → slice_index file i ≡ 0

-- a crash leaves nothing else
abbrev pub LeavesOver : (List ℕ → Type 0) → List ℕ → ℕ → ℕ → Type 0
LeavesOver may_leave text sure room = (file : List ℕ) → may_leave file → IsOver text sure room file

-- the same below this place
pub record IsSameBelow (at : ℕ) (old new : List ℕ) : Type 0 where
  pub no_shorter : length old ≤ length new
  pub below : (i : ℕ) → i < length old → i < at → slice_index new i ≡ slice_index old i

-- the same below this place, and each byte behind it is the old one or zero, as far as the file went
pub record IsZeroed (at : ℕ) (old new : List ℕ) : Type 0 where
  pub same : IsSameBelow at old new
  pub behind : (i : ℕ) → i < length old → at ≤ i → (slice_index new i ≡ slice_index old i) ⊎ (slice_index new i ≡ 0)

-- zeros from one place up to the other
pub record HasZeros (from to : ℕ) (file : List ℕ) : Type 0 where
  pub size : to ≤ length file
  pub zeros : (i : ℕ) → from ≤ i → i < to → slice_index file i ≡ 0
