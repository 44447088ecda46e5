-- What is noted of lines.
use Rattle.std.specs.Prelude.{ℕ, List, [], length, nat_le, Option, Some, None, if◌then◌else◌}
use Rattle.ssi_durable.specs.Meaning.Lines.{ends_loads}

-- of a line before it is carried out: all of it, if it may count
abbrev pub noted : List ℕ → List ℕ
noted line = if nat_le (length line) 4096 then line else []

-- how many bytes the loads have, as far as that is known, once the line was carried out, up to which there are so many
abbrev pub loaded_with : Option ℕ → List ℕ → ℕ → Option ℕ
loaded_with (Some n) line len = Some n
loaded_with None line len = if ends_loads line then Some len else None
