-- The places of the writers of all order lines in one list, and where those of each line start.
use Rattle.std.specs.Prelude.{◌≡◌, ℕ, suc, ◌<◌, ◌≤◌, List, [], Option, Some, None, length, replicate, slice_get, slice_index, slice_range}
use Rattle.adya_values.specs.Meaning.Histories.{Order}

-- the places of the line: those from its start to the start of the next
abbrev pub line_places : List ℕ → List ℕ → ℕ → List ℕ
line_places writes starts line = slice_range writes (slice_index starts line) (slice_index starts (suc line))

-- the starts never fall, and none of them is past the end
pub record AreStarts (starts : List ℕ) (end : ℕ) : Type 0 where
  pub rise : (line : ℕ) → suc line < length starts → slice_index starts line ≤ slice_index starts (suc line)
  pub within : (line : ℕ) → suc line < length starts → slice_index starts (suc line) ≤ end

-- the first n lines have these places, and the next line starts where they end
pub record AreParts (part : ℕ → List ℕ) (writes starts : List ℕ) (n : ℕ) : Type 0 where
  pub count : length starts ≡ suc n
  pub last : slice_index starts n ≡ length writes
  pub ordered : AreStarts starts (length writes)
  pub same : (line : ℕ) → line < n → line_places writes starts line ≡ part line

-- the writers that the line names
abbrev pub named : Option Order → List ℕ
named None = []
named (Some o) = o.writers

-- the writers of the line at the index
abbrev pub writers_at : List Order → ℕ → List ℕ
writers_at os line = named (slice_get os line)

-- the places of the line before any event
abbrev pub blank : List Order → ℕ → List ℕ
blank os line = replicate (length (writers_at os line)) 0
