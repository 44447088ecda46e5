-- Which segment of a folder is the last one.
use Rattle.std.specs.Prelude.{◌≡◌, ◌≤◌, ◌⊎◌, ℕ, true, false, List, [], ◌∷◌}
use Rattle.std.specs.BTreeSet.{BTreeSet, contains}
use Rattle.std.specs.Ordering.{nat_cmp}
use Rattle.sqlite_disk.specs.Events.{Event}
use Rattle.ssi_files.specs.declared.name.Ending.TheVariants.{Log}
use Rattle.ssi_files.specs.Meaning.FolderCalls.{Lists, RemovesNew, after, is_listed, made, opened, renamed, settled, synced}
use Rattle.ssi_files.specs.Meaning.Names.{IsNumber, file_name}

-- segment n was made and published, and nothing else was done
abbrev pub MakesSegment : ℕ → List Event → List Event → Type 0
MakesSegment n old new = new ≡ after (made n ∷ settled n ∷ synced ∷ renamed n ∷ synced ∷ []) old

-- segment n is the greatest of these, or there is none, and the first one was made
abbrev pub IsLastOf : BTreeSet ℕ → ℕ → List Event → List Event → Type 0
IsLastOf numbers n old new =
    ((contains nat_cmp numbers n ≡ true) × ((m : ℕ) → contains nat_cmp numbers m ≡ true → m ≤ n) × (new ≡ old))
    ⊎ (((m : ℕ) → contains nat_cmp numbers m ≡ false) × (n ≡ 1) × MakesSegment 1 old new)

-- The files of segments that were being made were removed, and then the names in the folder were listed. Segment n has the
-- greatest number of those that were found; or none was found, and n is the first, which was made then. After that n was opened
pub record OpensLast (n : ℕ) (old new : List Event) : Type 0 where
  pub cleaned : List Event
  pub removes : RemovesNew old cleaned
  pub listing : List Event
  pub lists : Lists cleaned listing
  pub numbers : BTreeSet ℕ
  pub found : (m : ℕ) → IsNumber m → contains nat_cmp numbers m ≡ is_listed listing (file_name m Log)
  pub before : List Event
  pub last : IsLastOf numbers n listing before
  pub opens : new ≡ after (opened n ∷ settled n ∷ []) before
