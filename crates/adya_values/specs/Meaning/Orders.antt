-- The versions of a key in their order (Adya 1999, section 3.1.2). Place 0 is the unborn version. Each writer that
-- the key's order line names has the next place, for its last write of the key.
use Rattle.std.specs.Prelude.{ℕ, zero, suc, ◌==◌, Bool, if◌then◌else◌, List, [], ◌∷◌, Option, Some, None, is_some, slice_get}
use Rattle.adya_keys.specs.Meaning.Keys.{Key, Bytes, key_eq}
use Rattle.adya_values.specs.Meaning.Histories.{Txns, Event, Order, History}
use Rattle.adya_values.specs.Meaning.Events.{last_write, shown}

-- how many numbers of the list come before this one
abbrev pub place : Txns → ℕ → ℕ
place [] t = 0
place (x ∷ xs) t = if x == t then 0 else suc (place xs t)

-- the writers that the key's order line names, if it has one
abbrev pub line_of : List Order → Key → Txns
line_of [] k = []
line_of (o ∷ os) k = if key_eq o.key k then o.writers else line_of os k

abbrev pub writers : History → Key → Txns
writers h k = line_of h.orders k

abbrev pub installer : History → Key → ℕ → Option ℕ
installer h k zero = None
installer h k (suc p) = slice_get (writers h k) p

-- the value that a reader gets of the transaction's last write of the key
abbrev pub shown_by : Key → List Event → Option ℕ → Option Bytes
shown_by k events None = None
shown_by k events (Some t) = shown (last_write t k events)

-- the value that a reader gets of the version at the place
abbrev pub value_at : History → Key → ℕ → Option Bytes
value_at h k p = shown_by k h.events (installer h k p)

-- neither unborn nor dead
abbrev pub is_visible_at : History → Key → ℕ → Bool
is_visible_at h k p = is_some (value_at h k p)
