-- What is kept of the bytes of a connection that are not carried out.
use Rattle.std.specs.Prelude.{ℕ, suc, ◌==◌, nat_lt, [], ◌∷◌, if◌then◌else◌, Bool}
use Rattle.std.specs.List.{list_any}
use Rattle.adya_keys.specs.Meaning.Keys.{Bytes}

-- a line feed is among them, so they begin with a whole line
abbrev pub has_line : Bytes → Bool
has_line bytes = list_any (λ b. b == 10) bytes

-- what is kept of bytes that follow n kept bytes of a line: of each line the first 4097 bytes, and its line feed. A line of
-- more than 4096 bytes is still one then, and which it is makes no difference
abbrev pub clipped_after : ℕ → Bytes → Bytes
clipped_after n [] = []
clipped_after n (b ∷ bs) =
    if b == 10 then b ∷ clipped_after 0 bs
    else if nat_lt n 4097 then b ∷ clipped_after (suc n) bs
    else clipped_after n bs

-- what is kept of bytes that begin a line
abbrev pub clipped : Bytes → Bytes
clipped bytes = clipped_after 0 bytes

-- how many bytes are kept of the line that is unfinished after the bytes, if n were before
abbrev pub kept_of_last : ℕ → Bytes → ℕ
kept_of_last n [] = n
kept_of_last n (b ∷ bs) =
    if b == 10 then kept_of_last 0 bs
    else if nat_lt n 4097 then kept_of_last (suc n) bs
    else kept_of_last n bs
