-- The lines of a text.
use Rattle.std.specs.Prelude.{◌≡◌, ℕ, ◌+◌, ◌==◌, if◌then◌else◌, Bool, false, List, [], ◌∷◌, ◌++◌, length, codes, decimal}
use Rattle.std.specs.Str.{bytes_eq}
use Rattle.adya_keys.specs.Meaning.Keys.{Bytes}

-- the whole lines of bytes that follow these of an unfinished line
abbrev pub lines_after : Bytes → Bytes → List Bytes
lines_after begun [] = []
lines_after begun (b ∷ bytes) = if b == 10 then begun ∷ lines_after [] bytes else lines_after (begun ++ (b ∷ [])) bytes

-- the whole lines, each without its line feed: what follows the last line feed is none
abbrev pub whole_lines : Bytes → List Bytes
whole_lines bytes = lines_after [] bytes

-- what is unfinished of bytes that follow these of an unfinished line
abbrev pub torn_after : Bytes → Bytes → Bytes
torn_after begun [] = begun
torn_after begun (b ∷ bytes) = if b == 10 then torn_after [] bytes else torn_after (begun ++ (b ∷ [])) bytes

-- what follows the last line feed
abbrev pub torn : Bytes → Bytes
torn bytes = torn_after [] bytes

-- the first line of segment n
abbrev pub header : ℕ → Bytes
header n = codes "# ssi log 1 segment " ++ decimal n

abbrev pub HasHeader : ℕ → List Bytes → Type 0
HasHeader n [] = ⊥
HasHeader n (line ∷ lines) = line ≡ header n

-- a line that begins with # makes no step
abbrev pub is_comment : Bytes → Bool
is_comment [] = false
is_comment (b ∷ bytes) = b == 35

-- it ends the loads of a segment: the lines before it write what the store held at the end of the segment before
abbrev pub ends_loads : Bytes → Bool
ends_loads line = bytes_eq line (codes "# loaded")

-- how many bytes lines have, each with its line feed, up to the first that ends the loads, after so many bytes before; 0 if there
-- is no such line
abbrev pub loads_after : ℕ → List Bytes → ℕ
loads_after n [] = 0
loads_after n (line ∷ lines) =
    if ends_loads line then n + (length line + 1) else loads_after (n + (length line + 1)) lines

-- how many bytes the loads have
abbrev pub loads_len : List Bytes → ℕ
loads_len lines = loads_after 0 lines

-- a front of the lines `most` that has all of `least`
pub record IsBetween (least lines most : List Bytes) : Type 0 where
  pub more : List Bytes
  pub lost : List Bytes
  pub has : lines ≡ least ++ more
  pub front : most ≡ lines ++ lost
