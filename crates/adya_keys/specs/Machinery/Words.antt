-- Numbers that the first bytes of a text form.
use Rattle.std.specs.Prelude.{ℕ, ◌+◌, ◌*◌, List, [], ◌∷◌, take}

-- the number that the bytes form after this one, the first of them the highest
abbrev pub number_from : ℕ → List ℕ → ℕ
number_from n [] = n
number_from n (b ∷ bs) = number_from (n * 256 + b) bs

-- the number that the first eight bytes form
abbrev pub first_word : List ℕ → ℕ
first_word bs = number_from 0 (take 8 bs)
