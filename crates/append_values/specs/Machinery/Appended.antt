-- What a step appends.
use Rattle.std.specs.Prelude.{ℕ, ◌==◌, Option, Some, None, cond}
use Rattle.append_values.specs.Meaning.Histories.{Operation, Append, Read, LostRead}

-- the element, if the step appends one to the list of the key
abbrev pub appended_by : ℕ → Operation → Option ℕ
appended_by k (Append j x) = cond (j == k) (Some x) None
appended_by k (Read j xs) = None
appended_by k (LostRead j) = None
