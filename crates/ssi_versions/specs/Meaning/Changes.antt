-- What a store of versions is told: what each commit installs, and collections with the snapshots that were open at the
-- time. The newest change stands first. Only `held` depends on collections.
use Rattle.std.specs.Prelude.{ℕ, ◌==◌, Bool, false, not, ◌&&◌, ◌||◌, nat_lt, nat_le, if◌then◌else◌, List, [], ◌∷◌, ◌++◌, length, Option, Some, None, is_some, filter, flat_map}
use Rattle.std.specs.List.{list_any}
use Rattle.adya_keys.specs.Meaning.Keys.{Key}
use Rattle.adya_values.specs.Meaning.Histories.{Entry}
use Rattle.adya_values.specs.Meaning.Events.{listed}
use Rattle.adya_values.specs.Meaning.KeySets.{insert}

pub data Change : Type 0 where
  Installs : (stamp : ℕ) (writes : List Entry) → Change
  Collects : (snapshots : List ℕ) → Change

-- an installed version
pub record Held : Type 0 where
  pub entry : Entry
  pub stamp : ℕ

abbrev pub stamped : ℕ → Option Entry → Option Held
stamped n None = None
stamped n (Some w) = Some (record { entry = w; stamp = n })

abbrev pub entry_in : Option Held → Option Entry
entry_in None = None
entry_in (Some h) = Some h.entry

-- the first if there is one, else the second
abbrev pub otherwise : {X : Type 0} → Option X → Option X → Option X
otherwise (Some x) o = Some x
otherwise None o = o

-- the key's contents after the first s commits: the newest version whose stamp is not above s
abbrev pub contents : Key → ℕ → List Change → Option Held
contents k s [] = None
contents k s (Installs n ws ∷ changes) = if nat_le n s then otherwise (stamped n (listed k ws)) (contents k s changes) else contents k s changes
contents k s (Collects ss ∷ changes) = contents k s changes

abbrev pub last_version : Key → List Change → Option Held
last_version k [] = None
last_version k (Installs n ws ∷ changes) = otherwise (stamped n (listed k ws)) (last_version k changes)
last_version k (Collects ss ∷ changes) = last_version k changes

abbrev pub is_installed_above : Key → ℕ → List Change → Bool
is_installed_above k s [] = false
is_installed_above k s (Installs n ws ∷ changes) = (nat_lt s n && is_some (listed k ws)) || is_installed_above k s changes
is_installed_above k s (Collects ss ∷ changes) = is_installed_above k s changes

abbrev pub has_stamp : ℕ → Option Held → Bool
has_stamp n None = false
has_stamp n (Some h) = h.stamp == n

-- the version of the key is its last one, or one of the snapshots sees it
abbrev pub is_needed : Key → List ℕ → List Change → Held → Bool
is_needed k ss changes h = has_stamp h.stamp (last_version k changes) || list_any (λ s. has_stamp h.stamp (contents k s changes)) ss

abbrev pub listing : Option Held → List Held
listing None = []
listing (Some h) = h ∷ []

-- the held versions of the key, by stamp: those that were needed at every collection since they were installed
abbrev pub held : Key → List Change → List Held
held k [] = []
held k (Installs n ws ∷ changes) = held k changes ++ listing (stamped n (listed k ws))
held k (Collects ss ∷ changes) = filter (is_needed k ss changes) (held k changes)

abbrev pub insert_keys : List Entry → List Key → List Key
insert_keys [] ks = ks
insert_keys (w ∷ ws) ks = insert w.version.key (insert_keys ws ks)

-- all keys of which a version was installed, rising
abbrev pub installed_keys : List Change → List Key
installed_keys [] = []
installed_keys (Installs n ws ∷ changes) = insert_keys ws (installed_keys changes)
installed_keys (Collects ss ∷ changes) = installed_keys changes

abbrev pub held_count : List Change → ℕ
held_count changes = length (flat_map (λ k. held k changes) (installed_keys changes))

abbrev pub key_count : List Change → ℕ
key_count changes = length (filter (λ k. not (length (held k changes) == 0)) (installed_keys changes))
