-- Which transactions a tracker keeps: only these can still come into new pairs.
use Rattle.std.specs.Prelude.{ℕ, Bool, not, ◌&&◌, ◌||◌, List, length, filter}
use Rattle.std.specs.List.{list_any}
use Rattle.ssi_conflict.specs.Meaning.Calls.{Call, is_committed, is_open, begun, precedes}

-- open, or committed with a stamp above the snapshot of some open transaction
abbrev pub is_kept : ℕ → List Call → Bool
is_kept t calls = is_open t calls || (is_committed t calls && list_any (λ x. is_open x calls && not (precedes t x calls)) (begun calls))

abbrev pub kept_count : List Call → ℕ
kept_count calls = length (filter (λ t. is_kept t calls) (begun calls))

abbrev pub open_count : List Call → ℕ
open_count calls = length (filter (λ t. is_open t calls) (begun calls))
