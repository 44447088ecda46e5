-- What follows from the definitions.
use Rattle.std.specs.Prelude.{◌≡◌, ◌<◌, ℕ, if◌then◌else◌, List, [], ◌∷◌, ◌++◌, take, Option, Some, is_some}
use Rattle.std.specs.List.{filter_map}
use Rattle.adya_keys.specs.Meaning.Keys.{Key, key_eq}
use Rattle.adya_values.specs.Meaning.Histories.{Entry}
use Rattle.adya_values.specs.Meaning.Events.{listed}
use Rattle.adya_values.specs.Meaning.Serial.{visible_pairs}
use Rattle.ssi_versions.specs.Clauses.Conditions.{AreApart}
use Rattle.ssi_snapshot.specs.Clauses.Writes.{put_write}
use Rattle.ssi_snapshot.specs.Clauses.Listings.{keys, within, IsListing, up_to}
use Rattle.ssi_snapshot.specs.Meaning.Reached.{reached}

-- the list with a write has this write of its key, and of every other key what it had
abbrev pub PutIsFound : Type 0
PutIsFound = (w : Entry) (ws : List Entry) (key : Key)
    → listed key (put_write w ws) ≡ (if key_eq w.version.key key then Some w else listed key ws)

-- the keys stay if there was a write of the key, and otherwise it comes last
abbrev pub PutKeepsOrder : Type 0
PutKeepsOrder = (w : Entry) (ws : List Entry)
    → keys (put_write w ws) ≡ (if is_some (listed w.version.key ws) then keys ws else keys ws ++ w.version.key ∷ [])

-- a list in which each key stands once is what it has of its keys, in their order
abbrev pub ListIsByKey : Type 0
ListIsByKey = (ws : List Entry) → AreApart ws → filter_map (λ k. listed k ws) (keys ws) ≡ ws

-- two lists by rising key that have the same of each key are the same
abbrev pub ListingIsUnique : Type 0
ListingIsUnique = (shows : Key → Option Entry) (vs ws : List Entry)
    → IsListing shows vs → IsListing shows ws → vs ≡ ws

-- the visible pairs of a limited scan are the first ones of the whole scan
abbrev pub LimitTakesFirst : Type 0
LimitTakesFirst = (n : ℕ) (ws : List Entry) → visible_pairs (up_to n ws) ≡ take n (visible_pairs ws)

-- and it lists all that is shown of the keys as far as it looked
abbrev pub LimitListsItsRange : Type 0
LimitListsItsRange = (shows : Key → Option Entry) (low high : Key) (n : ℕ) (ws : List Entry)
    → 0 < n → IsListing (within low high shows) ws
    → IsListing (within low (reached high n (visible_pairs (up_to n ws))) shows) (up_to n ws)
