-- Chains in an ordered map: what its entries hold.
use Rattle.std.specs.Prelude.{ℕ, suc, Bool, true, false, if◌then◌else◌, List, [], ◌∷◌, map, Option, None, Some, IsSomeAnd}
use Rattle.std.specs.List.{list_all, flat_map, filter_map, AllByRecursion}
use Rattle.std.specs.Map.{lookup, values_of}
use Rattle.std.specs.BTreeMap.{is_at}
use Rattle.std.specs.BTreeMap.Range.{entries_between}
use Rattle.std.specs.Ordering.{nat_cmp}
use Rattle.std.specs.Cmp.Lexicographic.{slice_cmp}
use Rattle.std.specs.declared.ops.Bound.TheVariants.{Included}
use Rattle.smallvec.specs.SmallVec.{SmallVec, HasRoomFor}
use Rattle.ssi_versions.specs.Meaning.Changes.{Held}
use Rattle.ssi_versions.specs.Clauses.ByStamp.{newest_within, IsByStamp}
use Rattle.ssi_versions.specs.declared.place.Place.{Place}
use Rattle.ssi_versions.specs.Mirror.{held_of, is_of}
use Rattle.ssi_versions.specs.Computing.Kept.{is_kept_before, next_stamp}

-- the version in a place of a chain
abbrev pub placed : Place → Held
placed p = held_of p.held

-- an entry: a key and its chain
abbrev pub Chain : Type 0
Chain = List ℕ × SmallVec Place

-- the versions of a chain
abbrev pub held_in : SmallVec Place → List Held
held_in v = map placed v.items

-- the chain that is kept under the key
abbrev pub kept_at : List ℕ → List Chain → Option (SmallVec Place)
kept_at key es = lookup (is_at (slice_cmp nat_cmp key)) es

abbrev pub held_under : Option (SmallVec Place) → List Held
held_under None = []
held_under (Some v) = held_in v

-- the versions under the key
abbrev pub held_at : List ℕ → List Chain → List Held
held_at key es = held_under (kept_at key es)

-- all versions, key by key
abbrev pub versions : List Chain → List Held
versions es = flat_map held_in (values_of es)

-- each chain has versions of its own key alone
abbrev pub is_owned : List Chain → Bool
is_owned es = list_all (λ e. list_all (is_of e.0) (held_in e.1)) es

-- one more version of the key fits
abbrev pub HasRoomAt : List Chain → List ℕ → Type 0
HasRoomAt es key = IsSomeAnd (kept_at key es) (λ v. HasRoomFor v 1)

abbrev pub is_filled : List Held → Bool
is_filled [] = false
is_filled (h ∷ hs) = true

-- how many chains have a version
abbrev pub filled_count : List Chain → ℕ
filled_count [] = 0
filled_count (e ∷ es) = if is_filled (held_in e.1) then suc (filled_count es) else filled_count es

-- what a snapshot at the stamp sees of the keys of the range
abbrev pub seen_between : List ℕ → List ℕ → ℕ → List Chain → List Held
seen_between low high s es = filter_map (λ e. newest_within s (held_in e.1)) (entries_between (slice_cmp nat_cmp) (Included low) (Included high) es)

-- what a snapshot at the stamp sees of these chains
abbrev pub seen_in : ℕ → List (SmallVec Place) → List Held
seen_in s vs = filter_map (λ v. newest_within s (held_in v)) vs

-- these chains stand by stamp
abbrev pub StandByStamp : List (SmallVec Place) → Type 0
StandByStamp vs = AllByRecursion (λ v. IsByStamp (held_in v)) vs

-- each chain stands by stamp
abbrev pub AreByStamp : List Chain → Type 0
AreByStamp es = AllByRecursion (λ e. IsByStamp (held_in e.1)) es

-- what is kept of a chain, as it is stored
abbrev pub kept_places : List ℕ → List Place → List Place
kept_places ss [] = []
kept_places ss (p ∷ ps) = if is_kept_before ss p.held.stamp (next_stamp (map placed ps)) then p ∷ kept_places ss ps else kept_places ss ps

-- a chain after a collection
abbrev pub kept_vec : List ℕ → SmallVec Place → SmallVec Place
kept_vec ss v = record { items = kept_places ss v.items; capacity = v.capacity }
