-- What a caller of a store of versions has to keep.
use Rattle.std.specs.Prelude.{◌≡◌, ℕ, ◌<◌, ◌≤◌, ◌⊎◌, false, List, [], ◌∷◌, Contains}
use Rattle.std.specs.List.{AllPairs}
use Rattle.adya_keys.specs.Meaning.Keys.{key_eq}
use Rattle.adya_values.specs.Meaning.Histories.{Entry}
use Rattle.ssi_versions.specs.Meaning.Changes.{Change, Collects, Installs}

-- the greatest stamp so far
abbrev pub last_installed : List Change → ℕ
last_installed [] = 0
last_installed (Installs n ws ∷ changes) = n
last_installed (Collects ss ∷ changes) = last_installed changes

-- no two writes are of one key
abbrev pub AreApart : List Entry → Type 0
AreApart ws = AllPairs (λ v w. key_eq v.version.key w.version.key ≡ false) ws

-- the conditions on the caller: each install has a stamp above all earlier ones, and at most one version of each key
abbrev pub AreInstallable : List Change → Type 0
AreInstallable [] = Unit {0}
AreInstallable (Installs n ws ∷ changes) = (last_installed changes < n) × AreApart ws × AreInstallable changes
AreInstallable (Collects ss ∷ changes) = AreInstallable changes

-- each collection was told of the snapshot, or came before any stamp above it
abbrev pub IsProtected : ℕ → List Change → Type 0
IsProtected s [] = Unit {0}
IsProtected s (Installs n ws ∷ changes) = IsProtected s changes
IsProtected s (Collects ss ∷ changes) = (Contains ss s ⊎ (last_installed changes ≤ s)) × IsProtected s changes
