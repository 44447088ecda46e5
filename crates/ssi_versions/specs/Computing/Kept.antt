-- What a collection keeps, as it can be told from the front: of each version and those that come after it.
use Rattle.std.specs.Prelude.{ℕ, Bool, true, ◌&&◌, nat_lt, if◌then◌else◌, List, [], ◌∷◌, map, Option, Some, None}
use Rattle.std.specs.List.{list_all}
use Rattle.ssi_versions.specs.Machinery.Snapshots.{is_between}
use Rattle.ssi_versions.specs.Meaning.Changes.{Held}
use Rattle.ssi_versions.specs.declared.held.Held.{Held as HeldValue}
use Rattle.ssi_versions.specs.Mirror.{held_of, chain_of}

-- the stamp of the first one
abbrev pub next_stamp : List Held → Option ℕ
next_stamp [] = None
next_stamp (h ∷ hs) = Some h.stamp

-- a version is kept that is the last of its key, or that a snapshot sees and not the next one
abbrev pub is_kept_before : List ℕ → ℕ → Option ℕ → Bool
is_kept_before ss low None = true
is_kept_before ss low (Some high) = is_between ss low high

-- what is kept of the versions of one key
abbrev pub kept : List ℕ → List Held → List Held
kept ss [] = []
kept ss (h ∷ hs) = if is_kept_before ss h.stamp (next_stamp hs) then h ∷ kept ss hs else kept ss hs

-- what is kept of a list of all installs
abbrev pub kept_in : List ℕ → List HeldValue → List HeldValue
kept_in ss [] = []
kept_in ss (h ∷ hs) = if is_kept_before ss h.stamp (next_stamp (chain_of h.version.key (map held_of hs))) then h ∷ kept_in ss hs else kept_in ss hs

-- each has a greater stamp than those before it: the test of `IsByStamp`
abbrev pub stamps_rise : List Held → Bool
stamps_rise [] = true
stamps_rise (h ∷ hs) = list_all (λ g. nat_lt h.stamp g.stamp) hs && stamps_rise hs
