-- What keys and values are made of, and how keys compare: by their bytes, a prefix first.
use Rattle.std.specs.Prelude.{ℕ, ◌<◌, ◌^◌, Bool, true, ◌&&◌, ◌||◌, ◌==◌, nat_lt, nat_le, nat_eq, List, [], ◌∷◌, length}
use Rattle.std.specs.List.{list_all}
use Rattle.std.specs.Ordering.{nat_cmp, is_lt, is_le}
use Rattle.std.specs.Cmp.Lexicographic.{pointwise, slice_cmp}

abbrev pub Key : Type 0
Key = List ℕ

-- of a value or of a text
abbrev pub Bytes : Type 0
Bytes = List ℕ

abbrev pub is_within : ℕ → ℕ → ℕ → Bool
is_within low high b = nat_le low b && nat_le b high

-- a-z, 0-9 and _
unfoldable pub is_key_byte : ℕ → Bool
is_key_byte b = is_within 97 122 b || is_within 48 57 b || b == 95

-- A-Z, a-z, 0-9, _, ., + and -
unfoldable pub is_value_byte : ℕ → Bool
is_value_byte b = is_within 97 122 b || is_within 65 90 b || is_within 48 57 b || b == 95 || b == 46 || b == 43 || b == 45

-- 1 to limit bytes, each of them allowed
abbrev pub is_text : ℕ → (ℕ → Bool) → Bytes → Bool
is_text limit may bytes = nat_lt 0 (length bytes) && nat_le (length bytes) limit && list_all may bytes

abbrev pub is_key : Bytes → Bool
is_key bytes = is_text 32 is_key_byte bytes

abbrev pub is_value : Bytes → Bool
is_value bytes = is_text 64 is_value_byte bytes

abbrev pub IsTxn : ℕ → Type 0
IsTxn n = (0 < n) × (n < 2 ^ 32)

abbrev pub IsMod : ℕ → Type 0
IsMod n = (0 < n) × (n < 2 ^ 16)

abbrev pub key_eq : Key → Key → Bool
key_eq a b = pointwise nat_eq a b

abbrev pub key_lt : Key → Key → Bool
key_lt a b = is_lt (slice_cmp nat_cmp a b)

abbrev pub key_le : Key → Key → Bool
key_le a b = is_le (slice_cmp nat_cmp a b)

-- the bounds included
abbrev pub lies_in : Key → Key → Key → Bool
lies_in low high k = key_le low k && key_le k high

abbrev pub keys_rise : List Key → Bool
keys_rise [] = true
keys_rise (k ∷ []) = true
keys_rise (k ∷ j ∷ ks) = key_lt k j && keys_rise (j ∷ ks)
