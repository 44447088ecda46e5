-- How many versions are held, and of how many keys, told from a list that agrees with what is held key by key.
use Rattle.std.specs.Prelude.{◌≡◌, List, length}
use Rattle.adya_keys.specs.Meaning.Keys.{Key}
use Rattle.ssi_versions.specs.Meaning.Changes.{Change, Held, held, held_count, key_count}
use Rattle.ssi_versions.specs.Mirror.{chain_of, key_total}

-- the list has of each key the held versions
abbrev pub Holds : List Held → List Change → Type 0
Holds hs changes = (key : Key) → chain_of key hs ≡ held key changes

-- such a list is as long as there are held versions
abbrev pub CountsHeld : Type 0
CountsHeld = (hs : List Held) (changes : List Change) → Holds hs changes → length hs ≡ held_count changes

-- and has versions of as many keys as have a held version
abbrev pub CountsKeys : Type 0
CountsKeys = (hs : List Held) (changes : List Change) → Holds hs changes → key_total hs ≡ key_count changes
