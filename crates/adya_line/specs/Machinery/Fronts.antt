-- How the line of an event begins.
use Rattle.std.specs.Prelude.{ℕ, List, Option, ◌++◌, codes, decimal}
use Rattle.adya_values.specs.Meaning.Histories.{Event, Scan}
use Rattle.adya_line.specs.Computing.Reading.{◌>>=◌, after, whole, entries_of, after_entries}

-- the letter, the transaction and what opens the version or the bounds
unfoldable pub front_text : List ℕ → ℕ → List ℕ
front_text letter txn = letter ++ decimal txn ++ codes "("

-- the scan of this front, if its entries are all of the line but what closes it
abbrev pub scan_after : ℕ → List ℕ → List ℕ → List ℕ → Option Event
scan_after txn low high listed =
    after 41 (after_entries listed) >>= λ end. whole (Scan txn low high (entries_of listed)) end
