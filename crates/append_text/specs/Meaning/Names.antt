-- Names of keys and elements, and their numbers.
use Rattle.std.specs.Prelude.{ℕ, ℤ, pos, Bool, true, false, ◌==◌, ◌/◌, ◌%◌, List, Option, Some, option_map, slice_get, if◌then◌else◌}
use Rattle.append_text.specs.declared.name.Name.{Name as NameValue}
use Rattle.append_text.specs.declared.name.Name.TheVariants as Seen
use Rattle.append_text.specs.declared.name.Kept.{Kept}
use Rattle.append_text.specs.declared.name.Kept.TheVariants as Held

pub data Name : Type 0 where
  integer : ℤ → Name
  string : List ℕ → Name
  keyword : List ℕ → Name

abbrev pub name_of : NameValue → Name
name_of (Seen.Integer z) = integer z
name_of (Seen.String bytes) = string bytes.now
name_of (Seen.Keyword bytes) = keyword bytes.now

abbrev pub kept_name : Kept → Name
kept_name (Held.Integer z) = integer z
kept_name (Held.String bytes) = string bytes.items
kept_name (Held.Keyword bytes) = keyword bytes.items

-- an integer from 0 up, whose number isn't kept but counted
abbrev pub is_counted : Name → Bool
is_counted (integer (pos k)) = true
is_counted _ = false

-- the name with this number: an even number is that of its half, an odd one counts the names that are kept
abbrev pub named : List Kept → ℕ → Option Name
named kept number =
    if number % 2 == 0 then Some (integer (pos (number / 2))) else option_map kept_name (slice_get kept (number / 2))
