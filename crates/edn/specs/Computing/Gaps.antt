-- Passing over what stands between tokens.
use Rattle.std.specs.Prelude.{ℕ, ◌==◌, List, [], ◌∷◌, Option, Some, None, if◌then◌else◌}
use Rattle.edn.specs.Meaning.Bytes.{is_space}

-- what follows the first line feed
abbrev pub after_line : List ℕ → Option (List ℕ)
after_line [] = None
after_line (b ∷ bs) = if b == 10 then Some bs else after_line bs

-- what follows the white space or the comment that begins with this byte
abbrev pub after_one : ℕ → List ℕ → Option (List ℕ)
after_one b bs = if is_space b then Some bs else if b == 59 then after_line bs else None

-- what follows white space and comments; a comment that has begun here and doesn't end isn't passed over
abbrev pub after_gap_in : Option (List ℕ) → List ℕ → List ℕ
after_gap_in None [] = []
after_gap_in (Some comment) [] = comment
after_gap_in None (b ∷ bs) =
    if is_space b then after_gap_in None bs else
    if b == 59 then after_gap_in (Some (b ∷ bs)) bs else b ∷ bs
after_gap_in (Some comment) (b ∷ bs) = if b == 10 then after_gap_in None bs else after_gap_in (Some comment) bs

unfoldable pub after_gap : List ℕ → List ℕ
after_gap text = after_gap_in None text
