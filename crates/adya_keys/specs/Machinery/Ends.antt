-- The parts of a list, by where each of them ends.
use Rattle.std.specs.Prelude.{ℕ, zero, suc, ◌-◌, ◌==◌, Bool, ◌&&◌, nat_le, List, [], ◌∷◌}
use Rattle.adya_keys.specs.Machinery.Within.{part}

-- the parts with these ends, the first of which begins at this place
abbrev pub parts_in : {A : Type 0} → List A → List ℕ → ℕ → List (List A)
parts_in xs [] at = []
parts_in xs (e ∷ es) at = part at (e - at) xs ∷ parts_in xs es e

-- the ends rise from this place to the end of so many elements
abbrev pub are_ends : ℕ → List ℕ → ℕ → Bool
are_ends n [] at = at == n
are_ends n (e ∷ es) at = nat_le at e && are_ends n es e

-- where the part at the index begins
abbrev pub end_before : List ℕ → ℕ → ℕ → ℕ
end_before es at zero = at
end_before [] at (suc i) = at
end_before (e ∷ es) at (suc i) = end_before es e i
