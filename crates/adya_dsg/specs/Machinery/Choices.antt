-- What an event reads or selects, key by key.
use Rattle.std.specs.Prelude.{ℕ, List, option_map, slice_index_or}
use Rattle.std.specs.List.{filter_map, slice_get}
use Rattle.adya_values.specs.Meaning.Histories.{Abort, Event, History}
use Rattle.adya_values.specs.Meaning.Selections.{selected}
use Rattle.adya_terms.specs.Mirror.LineNumbers.{key_of}
use Rattle.adya_dsg.specs.declared.selection.Selection.{Selection}

-- the event at the index; past the end one that sees nothing
abbrev pub event_at : History → ℕ → Event
event_at h i = slice_index_or h.events i (Abort 0)

-- a place in the version order of a key
pub record Choice : Type 0 where
  pub key : List ℕ
  pub place : ℕ

abbrev pub choice : List ℕ → ℕ → Choice
choice k p = record { key = k; place = p }

-- for each key with an order line the place that the event reads or selects
abbrev pub choices : History → Event → List Choice
choices h e = filter_map (λ o. option_map (choice o.key) (selected h e o.key)) h.orders

-- the key of the order line
abbrev pub key_at : History → ℕ → List ℕ
key_at h i = key_of (slice_get h.orders i)

abbrev pub choice_of : History → Selection → Choice
choice_of h s = choice (key_at h s.line) s.place
