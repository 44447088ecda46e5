-- Reading a number digit by digit.
use Rattle.std.specs.Prelude.{ℕ, ◌-◌, ◌^◌, nat_lt, List, [], ◌∷◌, take, drop, Option, Some, None, if◌then◌else◌}
use Rattle.std.specs.Char.{is_ascii_digit}
use Rattle.std.specs.Str.Parse.{digits_value_after}
use Rattle.adya_line.specs.Computing.Reading.{digits_len}

-- the value of the digit at the front, and what follows
unfoldable pub digit_at : List ℕ → Option (ℕ × List ℕ)
digit_at [] = None
digit_at (c ∷ cs) = if is_ascii_digit c then Some (c - 48, cs) else None

-- the number of n's digits and those at the front, below 2 ^ 32, and what follows
unfoldable pub number_from : ℕ → List ℕ → Option (ℕ × List ℕ)
number_from n bytes =
    if nat_lt (digits_value_after 10 n (take (digits_len bytes) bytes)) (2 ^ 32)
    then Some (digits_value_after 10 n (take (digits_len bytes) bytes), drop (digits_len bytes) bytes)
    else None
