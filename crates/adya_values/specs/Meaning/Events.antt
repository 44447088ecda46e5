-- What the events of a history write and see, and how its transactions end.
use Rattle.std.specs.Prelude.{ℕ, ◌==◌, Bool, false, ◌&&◌, ◌||◌, if◌then◌else◌, List, [], ◌∷◌, Option, Some, None, filter, filter_map}
use Rattle.std.specs.List.{list_any}
use Rattle.adya_values.specs.declared.event.Version.{Version}
use Rattle.adya_keys.specs.Meaning.Keys.{Key, Bytes, key_eq}
use Rattle.adya_values.specs.Meaning.Histories.{Content, Live, Dead, Entry, Event, Write, Delete, Read, Scan, Commit, Abort, History}

abbrev pub txn_of : Event → ℕ
txn_of (Write t k m v) = t
txn_of (Delete t k m) = t
txn_of (Read t r v) = t
txn_of (Scan t low high es) = t
txn_of (Commit t) = t
txn_of (Abort t) = t

abbrev pub version : Key → ℕ → ℕ → Version
version k t m = record { key = k; txn = t; m = m }

abbrev pub entry : Version → Content → Entry
entry r c = record { version = r; content = c }

abbrev pub written : Event → Option Entry
written (Write t k m v) = Some (entry (version k t m) (Live v))
written (Delete t k m) = Some (entry (version k t m) Dead)
written _ = None

abbrev pub observed : Event → List Entry
observed (Read t r v) = entry r (Live v) ∷ []
observed (Scan t low high es) = es
observed _ = []

-- in order
abbrev pub writes_of : ℕ → Key → List Event → List Entry
writes_of t k events = filter (λ w. w.version.txn == t && key_eq w.version.key k) (filter_map written events)

abbrev pub last : {X : Type 0} → List X → Option X
last [] = None
last (x ∷ []) = Some x
last (x ∷ y ∷ ys) = last (y ∷ ys)

abbrev pub last_write : ℕ → Key → List Event → Option Entry
last_write t k events = last (writes_of t k events)

abbrev pub commit_of : Event → Option ℕ
commit_of (Commit t) = Some t
commit_of e = None

abbrev pub commits : ℕ → Event → Bool
commits t (Commit u) = u == t
commits t e = false

abbrev pub aborts : ℕ → Event → Bool
aborts t (Abort u) = u == t
aborts t e = false

abbrev pub is_committed : List Event → ℕ → Bool
is_committed events t = list_any (commits t) events

abbrev pub is_unfinished : History → ℕ → Bool
is_unfinished h t = list_any (λ u. u == t) h.unfinished

-- an unfinished transaction counts as aborted
abbrev pub is_aborted : History → ℕ → Bool
is_aborted h t = list_any (aborts t) h.events || is_unfinished h t

-- what the list of a scan has of the key
abbrev pub listed : Key → List Entry → Option Entry
listed k [] = None
listed k (w ∷ ws) = if key_eq w.version.key k then Some w else listed k ws

-- what a reader gets of a version
abbrev pub visible : Content → Option Bytes
visible (Live v) = Some v
visible Dead = None

-- the same of a version that may be unborn, which has no entry
abbrev pub shown : Option Entry → Option Bytes
shown None = None
shown (Some w) = visible w.content
