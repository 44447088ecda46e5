-- The history that passed its check.
use Rattle.std.specs.Prelude.{ℕ, Option, option_and_then, slice_get}
use Rattle.adya_values.specs.declared.events.Events.{Events}
use Rattle.adya_values.specs.declared.history.History.{History as HistoryValue}
use Rattle.adya_values.specs.Meaning.Histories.{Entry, History}
use Rattle.adya_values.specs.Meaning.Events.{last_write}
use Rattle.adya_values.specs.Mirror.Histories.{history_of}
use Rattle.adya_terms.specs.declared.checked.Checked.{Checked}

-- the history of the code
abbrev pub history_in : Checked → HistoryValue
history_in c = c.history.now

-- the events of the code
abbrev pub events_in : Checked → Events
events_in c = c.events.now

-- the plain history
abbrev pub checked_history : Checked → History
checked_history c = history_of (history_in c)

-- what the writer at the place of the order line at the index installed, both from 0 on: its last write of the line's key
abbrev pub installed_at : History → ℕ → ℕ → Option Entry
installed_at h line place =
    option_and_then (λ o. option_and_then (λ t. last_write t o.key h.events) (slice_get o.writers place)) (slice_get h.orders line)
