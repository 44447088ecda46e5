-- Lines that come out of a buffer over a source.
use Rattle.std.specs.Prelude.{ℕ, ◌+◌, ◌*◌, List, [], ◌∷◌, length, Bool, if◌then◌else◌}

-- what ends a line: its line feed, if it has one
abbrev pub line_end : Bool → List ℕ
line_end ended = if ended then 10 ∷ [] else []

-- falls at each line, since a read brings at most 8192 bytes: from the reads left, and the bytes pending
abbrev pub work_left : ℕ → List ℕ → ℕ
work_left reads pending = reads * 8193 + length pending
