-- The calls on a folder.
use Rattle.std.specs.Prelude.{◌≡◌, ◌⊎◌, ℕ, Bool, true, false, ◌&&◌, ◌||◌, ◌==◌, List, [], ◌∷◌, bytes_eq, map, Result, MatchResult}
use Rattle.std.specs.BTreeSet.{BTreeSet, contains}
use Rattle.std.specs.Ordering.{nat_cmp}
use Rattle.sqlite_disk.specs.Events.{Event}
use Rattle.ssi_files.specs.declared.fault.FolderFault.{FolderFault}
use Rattle.ssi_files.specs.declared.fault.FolderFault.TheVariants.{Memory}
use Rattle.ssi_files.specs.declared.name.Ending.TheVariants.{New}
use Rattle.ssi_files.specs.Meaning.Names.{IsNumber, file_name}

-- A call that is made, by whether it succeeds. A record has the calls, the newest first.
abbrev pub Step : Type 0
Step = Bool → Event

-- the lock of the folder is taken
abbrev pub locked : Step
locked ok = (0, 0, 0, ok, [])

-- the names in the folder are put on the disk
abbrev pub synced : Step
synced ok = (1, 0, 0, ok, [])

-- the name of the folder is put on the disk
abbrev pub kept : Step
kept ok = (2, 0, 0, ok, [])

-- the file of segment n is opened
abbrev pub opened : ℕ → Step
opened n ok = (3, n, 0, ok, [])

-- a new file is made for segment n
abbrev pub made : ℕ → Step
made n ok = (4, n, 0, ok, [])

-- the bytes of the file of segment n are put on the disk
abbrev pub settled : ℕ → Step
settled n ok = (5, n, 0, ok, [])

-- the new file of segment n becomes its file
abbrev pub renamed : ℕ → Step
renamed n ok = (7, n, 0, ok, [])

-- the new file of segment n is removed
abbrev pub removed : ℕ → Step
removed n ok = (8, n, 0, ok, [])

-- the names in the folder are asked for
abbrev pub listed : Step
listed ok = (9, 0, 0, ok, [])

-- and this one is found
abbrev pub found : List ℕ → Event
found name = (10, 0, 0, true, name)

-- the calls after these steps
abbrev pub after : List Step → List Event → List Event
after [] calls = calls
after (step ∷ steps) calls = after steps (step true ∷ calls)

-- the steps were made up to one that failed, or memory ran out before the next one
abbrev pub StopsIn : List Step → FolderFault → List Event → List Event → Type 0
StopsIn [] fault old new = ⊥
StopsIn (step ∷ steps) fault old new = ((fault ≡ Memory) × (new ≡ old)) ⊎ (new ≡ step false ∷ old) ⊎ StopsIn steps fault (step true ∷ old) new

-- the steps are made in their order, and an error comes only if one of them fails or memory runs out
abbrev pub Makes : {T : Type 0} → List Step → Result T FolderFault → List Event → List Event → Type 0
Makes steps result old new = MatchResult result (λ _. new ≡ after steps old) (λ fault. StopsIn steps fault old new)

-- the last call was this one and failed, or memory ran out
abbrev pub FailsBy : Step → FolderFault → List Event → Type 0
FailsBy step fault calls = (fault ≡ Memory) ⊎ ((earlier : List Event) × (calls ≡ step false ∷ earlier))

-- the same of the removal of some new file
abbrev pub FailsToRemove : FolderFault → List Event → Type 0
FailsToRemove fault calls = (n : ℕ) × FailsBy (removed n) fault calls

-- all that was done since is to list names
abbrev pub Lists : List Event → List Event → Type 0
Lists old [] = ⊥
Lists old (call ∷ earlier) = ((call ≡ listed true) × (earlier ≡ old)) ⊎ ((call ≡ found call.4) × Lists old earlier)

-- the name was found when names were listed last
abbrev pub is_listed : List Event → List ℕ → Bool
is_listed [] name = false
is_listed (call ∷ earlier) name = (call.0 == 10) && (bytes_eq call.4 name || is_listed earlier name)

-- The names were listed, and then each new file of a segment that was found was removed, and nothing else was done. `numbers`
-- are those of the new files, in the order in which they were removed.
pub record RemovesNew (old new : List Event) : Type 0 where
  pub after_listing : List Event
  pub numbers : BTreeSet ℕ
  pub lists : Lists old after_listing
  pub each : (n : ℕ) → IsNumber n → contains nat_cmp numbers n ≡ is_listed after_listing (file_name n New)
  pub removes : new ≡ after (map removed numbers.keys) after_listing
