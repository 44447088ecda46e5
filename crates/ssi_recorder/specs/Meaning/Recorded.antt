-- The history that a list of events makes: of each key the version order is the order in which its writers committed
-- (Adya 1999, section 3.1.2), and the final value is that of the last version, if that is visible.
use Rattle.std.specs.Prelude.{ℕ, Bool, true, false, nat_eq, if◌then◌else◌, List, [], ◌∷◌, ◌++◌, Option, Some, None, is_some, filter, fold}
use Rattle.std.specs.List.{filter_map, list_any}
use Rattle.adya_values.specs.declared.edition.Edition.{Edition}
use Rattle.adya_keys.specs.Meaning.Keys.{Key, Bytes}
use Rattle.adya_values.specs.Meaning.Histories.{Txns, Abort, Commit, Event, Order, FinalPair, History}
use Rattle.adya_values.specs.Meaning.Events.{commit_of, written, last, last_write}
use Rattle.adya_values.specs.Meaning.Orders.{shown_by}
use Rattle.adya_values.specs.Meaning.Serial.{visible_pair_of}
use Rattle.adya_values.specs.Meaning.KeySets.{insert}

-- a commit or an abort
abbrev pub is_end : Event → Bool
is_end (Commit t) = true
is_end (Abort t) = true
is_end e = false

-- with the number at its end, unless it has it already
abbrev pub with_number : Txns → ℕ → Txns
with_number seen t = if list_any (nat_eq t) seen then seen else seen ++ t ∷ []

-- the committed transactions in the order of their commits, each once
abbrev pub by_commit : List Event → Txns
by_commit events = fold with_number [] (filter_map commit_of events)

-- those of them that wrote the key
abbrev pub writers_by_commit : Key → List Event → Txns
writers_by_commit k events = filter (λ t. is_some (last_write t k events)) (by_commit events)

-- the value that the key has after all commits
abbrev pub last_shown : Key → List Event → Option Bytes
last_shown k events = shown_by k events (last (writers_by_commit k events))

-- all keys that were written, rising
abbrev pub written_keys : List Event → List Key
written_keys events = fold (λ ks w. insert w.version.key ks) [] (filter_map written events)

-- none if there is no writer
abbrev pub order_line : Key → Txns → Option Order
order_line k [] = None
order_line k (t ∷ ts) = Some (record { key = k; writers = t ∷ ts })

-- of each key with a committed writer, by rising key
abbrev pub orders_of_events : List Event → List Order
orders_of_events events = filter_map (λ k. order_line k (writers_by_commit k events)) (written_keys events)

-- of each key that has one, by rising key
abbrev pub finals_of_events : List Event → List FinalPair
finals_of_events events = filter_map (λ k. visible_pair_of k (last_shown k events)) (written_keys events)

abbrev pub history_of_events : Edition → Txns → List Event → History
history_of_events edition unfinished events = record {
  edition = edition;
  events = events;
  unfinished = unfinished;
  orders = orders_of_events events;
  finals = finals_of_events events;
}
