-- Versions in the order of their stamps.
use Rattle.std.specs.Prelude.{ℕ, ◌<◌, Bool, false, ◌||◌, nat_lt, nat_le, if◌then◌else◌, List, [], ◌∷◌, Option, Some, None}
use Rattle.std.specs.List.{list_any, AllPairs}
use Rattle.ssi_versions.specs.Meaning.Changes.{Held, has_stamp, otherwise}

-- of versions in the order of their stamps, the newest one whose stamp is not above s
abbrev pub newest_within : ℕ → List Held → Option Held
newest_within s [] = None
newest_within s (h ∷ hs) = otherwise (newest_within s hs) (if nat_le h.stamp s then Some h else None)

-- of versions in the order of their stamps, the last one
abbrev pub newest : List Held → Option Held
newest [] = None
newest (h ∷ hs) = otherwise (newest hs) (Some h)

-- each has a greater stamp than those before it
abbrev pub IsByStamp : List Held → Type 0
IsByStamp hs = AllPairs (λ g h. g.stamp < h.stamp) hs

-- there is a version, and its stamp is above s
abbrev pub is_above : ℕ → Option Held → Bool
is_above s None = false
is_above s (Some h) = nat_lt s h.stamp

-- of versions that stand by stamp, the last one or one that a snapshot sees
abbrev pub is_wanted : List ℕ → List Held → Held → Bool
is_wanted ss hs h = has_stamp h.stamp (newest hs) || list_any (λ s. has_stamp h.stamp (newest_within s hs)) ss
