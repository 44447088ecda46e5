-- How reading a line ended.
use Rattle.std.specs.Prelude.{Bool, false, Result, Ok, Err}

-- whether a line feed came
abbrev pub has_ended : {E : Type 0} → Result Bool E → Bool
has_ended (Ok ended) = ended
has_ended (Err e) = false
