-- The number that a text is.
use Rattle.std.specs.Prelude.{ℕ, zero, suc, ◌+◌, ◌-◌, ◌*◌, ◌^◌, ℤ, pos, negsuc, Bool, true, false, ◌&&◌, ◌||◌, ◌==◌, nat_eq, nat_le, nat_lt}
use Rattle.std.specs.Prelude.{List, [], ◌∷◌, length, take, drop, codes, Option, Some, None, option_and_then, if◌then◌else◌}
use Rattle.std.specs.List.{prefix_len, list_all}
use Rattle.std.specs.Cmp.Lexicographic.{pointwise}
use Rattle.std.specs.Char.{digit_value, is_ascii_digit, is_ascii_hexdigit, is_digit}
use Rattle.edn.specs.declared.number.Sign.{Sign}
use Rattle.edn.specs.declared.number.Sign.TheVariants.{Plus, Minus}
use Rattle.edn.specs.Meaning.Forms.{Form, integer, number}

-- `+` or `-`
abbrev pub is_sign : ℕ → Bool
is_sign b = b == 43 || b == 45

-- a digit, or a digit after a sign
abbrev pub begins_number : List ℕ → Bool
begins_number [] = false
begins_number (a ∷ []) = is_ascii_digit a
begins_number (a ∷ b ∷ bs) = is_ascii_digit a || (is_sign a && is_ascii_digit b)

abbrev pub sign_of : List ℕ → Sign
sign_of [] = Plus
sign_of (b ∷ bs) = if b == 45 then Minus else Plus

-- what follows the sign at the front, if there is one
abbrev pub after_sign : List ℕ → List ℕ
after_sign [] = []
after_sign (b ∷ bs) = if is_sign b then bs else b ∷ bs

-- at least one digit, and each is one of this radix
abbrev pub are_digits : ℕ → List ℕ → Bool
are_digits radix digits = nat_lt 0 (length digits) && list_all (λ b. is_digit b radix) digits

-- nothing or `N`
abbrev pub is_integer_end : List ℕ → Bool
is_integer_end [] = true
is_integer_end (b ∷ []) = b == 78
is_integer_end (b ∷ c ∷ bs) = false

-- nothing or `M`
abbrev pub is_decimal_end : List ℕ → Bool
is_decimal_end [] = true
is_decimal_end (b ∷ []) = b == 77
is_decimal_end (b ∷ c ∷ bs) = false

abbrev pub after_digits : List ℕ → List ℕ
after_digits text = drop (prefix_len is_ascii_digit text) text

-- what follows the fraction at the front, if there is one
abbrev pub after_fraction : List ℕ → List ℕ
after_fraction [] = []
after_fraction (b ∷ bs) = if b == 46 then after_digits bs else b ∷ bs

-- `e` or `E`
abbrev pub is_exponent_mark : ℕ → Bool
is_exponent_mark b = b == 101 || b == 69

abbrev pub after_exponent_digits : List ℕ → List ℕ → List ℕ
after_exponent_digits text digits = if prefix_len is_ascii_digit digits == 0 then text else after_digits digits

-- what follows the exponent at the front, if there is one
abbrev pub after_exponent : List ℕ → List ℕ
after_exponent [] = []
after_exponent (b ∷ bs) = if is_exponent_mark b then after_exponent_digits (b ∷ bs) (after_sign bs) else b ∷ bs

-- `/` and the digits of a denominator
abbrev pub is_denominator : List ℕ → Bool
is_denominator [] = false
is_denominator (b ∷ bs) = b == 47 && are_digits 10 bs

-- what may follow the digits of a number that isn't written as an integer
abbrev pub is_number_end : List ℕ → Bool
is_number_end rest = is_denominator rest || is_decimal_end (after_exponent (after_fraction rest))

-- one digit more, within 64 bits
unfoldable pub next_value : ℕ → ℕ → ℕ → Option ℕ
next_value radix value digit =
    if nat_lt (value * radix + digit_value digit) (2 ^ 64) then Some (value * radix + digit_value digit) else None

abbrev pub magnitude_after : ℕ → ℕ → List ℕ → Option ℕ
magnitude_after radix value [] = Some value
magnitude_after radix value (d ∷ ds) = option_and_then (λ v. magnitude_after radix v ds) (next_value radix value d)

-- the number of the digits in this radix, within 64 bits
abbrev pub magnitude : ℕ → List ℕ → Option ℕ
magnitude radix digits = magnitude_after radix 0 digits

abbrev pub positive : ℕ → Option ℤ
positive n = if nat_lt n (2 ^ 63) then Some (pos n) else None

abbrev pub negative : ℕ → Option ℤ
negative zero = Some (pos 0)
negative (suc n) = if nat_lt n (2 ^ 63) then Some (negsuc n) else None

abbrev pub with_sign : Sign → ℕ → Option ℤ
with_sign Plus n = positive n
with_sign Minus n = negative n

-- the integer of 64 bits with this sign and these digits
abbrev pub integer_of : ℕ → Sign → List ℕ → Option ℤ
integer_of radix sign digits = option_and_then (with_sign sign) (magnitude radix digits)

-- the integer if it has 64 bits, else a number as it is written
abbrev pub number_from : List ℕ → Option ℤ → Form
number_from text (Some z) = integer z
number_from text None = number text

-- the text is that of an integer with these digits, if they are some of this radix
abbrev pub integer_form : List ℕ → ℕ → List ℕ → Option Form
integer_form text radix digits =
    if are_digits radix digits then Some (number_from text (integer_of radix (sign_of text) digits)) else None

-- the digits at the front of the text behind `0x`, after which the integer ends
abbrev pub hex_form : List ℕ → List ℕ → Option Form
hex_form text digits =
    if is_integer_end (drop (prefix_len is_ascii_hexdigit digits) digits)
    then integer_form text 16 (take (prefix_len is_ascii_hexdigit digits) digits) else None

-- a `0` before other digits says that they are octal
abbrev pub radix_of : List ℕ → ℕ
radix_of [] = 10
radix_of (a ∷ []) = 10
radix_of (a ∷ b ∷ bs) = if a == 48 then 8 else 10

-- the radix that is written before `r`: one digit, or two that don't begin with `0`
abbrev pub radix_named : List ℕ → ℕ
radix_named [] = 0
radix_named (a ∷ []) = a - 48
radix_named (a ∷ b ∷ []) = if a == 48 then 0 else (a - 48) * 10 + (b - 48)
radix_named (a ∷ b ∷ c ∷ cs) = 0

-- `r` or `R` behind the name of a radix
abbrev pub is_radix_mark : List ℕ → ℕ → Bool
is_radix_mark whole b = (b == 114 || b == 82) && (nat_le 2 (radix_named whole) && nat_le (radix_named whole) 36)

abbrev pub is_zero : List ℕ → Bool
is_zero [] = false
is_zero (a ∷ []) = a == 48
is_zero (a ∷ b ∷ bs) = false

-- `x` or `X` behind `0`
abbrev pub is_hex_mark : List ℕ → ℕ → Bool
is_hex_mark whole b = (b == 120 || b == 88) && is_zero whole

-- with these digits at the front, and with more behind them than `N`
abbrev pub other_form : List ℕ → List ℕ → List ℕ → Option Form
other_form text [] rest = None
other_form text (d ∷ ds) [] = None
other_form text (d ∷ ds) (b ∷ bs) =
    if is_hex_mark (d ∷ ds) b then hex_form text bs else
    if is_radix_mark (d ∷ ds) b then integer_form text (radix_named (d ∷ ds)) bs else
    if is_number_end (b ∷ bs) then Some (number text) else None

abbrev pub number_parts : List ℕ → List ℕ → List ℕ → Option Form
number_parts text whole rest =
    if is_integer_end rest then integer_form text (radix_of whole) whole else other_form text whole rest

-- the infinities, and what is no number, are written so after `##`
abbrev pub is_symbolic : List ℕ → Bool
is_symbolic name =
    pointwise nat_eq name (codes "Inf") || pointwise nat_eq name (codes "-Inf") || pointwise nat_eq name (codes "NaN")

-- the number that a text is, if it is one
unfoldable pub number_of : List ℕ → Option Form
number_of text =
    number_parts text (take (prefix_len is_ascii_digit (after_sign text)) (after_sign text)) (after_digits (after_sign text))
