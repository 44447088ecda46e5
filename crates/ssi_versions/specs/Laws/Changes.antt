-- That collections drop nothing that is still asked for.
use Rattle.std.specs.Prelude.{◌≡◌, ℕ, List, ◌∷◌, filter, Contains}
use Rattle.adya_keys.specs.Meaning.Keys.{Key}
use Rattle.ssi_versions.specs.Meaning.Changes.{Change, Collects, contents, last_version, is_installed_above, held}
use Rattle.ssi_versions.specs.Clauses.ByStamp.{is_above, is_wanted, newest, newest_within, IsByStamp}
use Rattle.ssi_versions.specs.Clauses.Conditions.{AreInstallable, IsProtected}

-- held versions of a key stand by stamp
abbrev pub HeldRises : Type 0
HeldRises = (changes : List Change) → AreInstallable changes → (k : Key) → IsByStamp (held k changes)

-- the last version of a key is always held
abbrev pub LastIsHeld : Type 0
LastIsHeld = (changes : List Change) (k : Key) → newest (held k changes) ≡ last_version k changes

-- the contents at a snapshot that no collection left out can be told from the held versions
abbrev pub HeldShows : Type 0
HeldShows = (changes : List Change) → AreInstallable changes → (k : Key) (s : ℕ) → IsProtected s changes
    → newest_within s (held k changes) ≡ contents k s changes

-- whether a version above s was installed can be told from the last one
abbrev pub LastIsAbove : Type 0
LastIsAbove = (changes : List Change) → AreInstallable changes → (k : Key) (s : ℕ) → is_installed_above k s changes ≡ is_above s (last_version k changes)

-- what a collection keeps can be told from the held versions, where no snapshot that it names was left out before
abbrev pub CollectsHeld : Type 0
CollectsHeld = (changes : List Change) → AreInstallable changes → (ss : List ℕ) → ((s : ℕ) → Contains ss s → IsProtected s changes)
    → (k : Key) → held k (Collects ss ∷ changes) ≡ filter (is_wanted ss (held k changes)) (held k changes)

-- what a named snapshot sees of the held versions is the same after a collection as before it
abbrev pub CollectKeepsSeen : Type 0
CollectKeepsSeen = (changes : List Change) → AreInstallable changes → (ss : List ℕ) (s : ℕ) → Contains ss s → IsProtected s changes
    → (k : Key) → newest_within s (held k (Collects ss ∷ changes)) ≡ newest_within s (held k changes)
