-- Where the history text of a stream ends.
use Rattle.std.specs.Prelude.{ℕ, suc, ◌==◌, Bool, true, false, ◌&&◌, if◌then◌else◌, List, [], ◌∷◌, codes}

abbrev pub begins_with : List ℕ → List ℕ → Bool
begins_with [] text = true
begins_with (x ∷ xs) [] = false
begins_with (x ∷ xs) (y ∷ ys) = (x == y) && begins_with xs ys

-- how many bytes there are up to and with the first line `end`, or all if there is none; whether a line starts here
abbrev pub end_of_history : Bool → List ℕ → ℕ
end_of_history starts [] = 0
end_of_history starts (b ∷ bs) =
    if starts && begins_with (codes "end\n") (b ∷ bs) then 4 else suc (end_of_history (b == 10) bs)
