-- What is said of a store of versions: the list of those that it holds, read key by key.
use Rattle.std.specs.Prelude.{◌<◌, ℕ, suc, Bool, if◌then◌else◌, List, [], ◌∷◌, filter, Option, Some, None}
use Rattle.std.specs.List.{list_any, All}
use Rattle.adya_values.specs.declared.event.Version.{Version}
use Rattle.adya_values.specs.declared.event.Content.{Content}
use Rattle.adya_keys.specs.Meaning.Keys.{Key, key_eq}
use Rattle.adya_values.specs.Meaning.Histories.{Entry}
use Rattle.adya_values.specs.Mirror.Events.{content_of}
use Rattle.adya_values.specs.Meaning.Events.{entry}
use Rattle.ssi_versions.specs.Meaning.Changes.{Held}
use Rattle.ssi_versions.specs.declared.held.Held.{Held as HeldValue}

-- the plain value of a held version
abbrev pub held_of : HeldValue → Held
held_of h = record { entry = entry h.version (content_of h.content); stamp = h.stamp }

-- the plain value of a write
abbrev pub write_of : Version × Content → Entry
write_of w = entry w.0 (content_of w.1)

abbrev pub key_in : Held → Key
key_in h = h.entry.version.key

-- whether it is a version of the key
abbrev pub is_of : Key → Held → Bool
is_of key h = key_eq h.entry.version.key key

-- the held versions of the key
abbrev pub chain_of : Key → List Held → List Held
chain_of key hs = filter (is_of key) hs

-- the first version of the key
abbrev pub found_in : Key → List Held → Option Held
found_in key [] = None
found_in key (h ∷ hs) = if is_of key h then Some h else found_in key hs

-- how many keys they are of
abbrev pub key_total : List Held → ℕ
key_total [] = 0
key_total (h ∷ hs) = if list_any (is_of h.entry.version.key) hs then key_total hs else suc (key_total hs)

-- the stamp is above those of all of them, told key by key
abbrev pub IsAbove : ℕ → List Held → Type 0
IsAbove stamp hs = (key : Key) → All (λ h. h.stamp < stamp) (chain_of key hs)
