-- Where the forms of a tape begin. Nodes stand here with the newest first.
use Rattle.std.specs.Prelude.{ℕ, zero, suc, ◌+◌, ◌%◌, ◌==◌, Bool, true, false, ◌&&◌, nat_le, List, [], ◌∷◌, length}
use Rattle.edn.specs.declared.tape.Node.{Node}
use Rattle.edn.specs.declared.tape.Node.TheVariants.{Atom, End}
use Rattle.edn.specs.declared.tape.Row.{Row}
use Rattle.edn.specs.declared.tape.Row.TheVariants.{Map, NamespacedMap}
use Rattle.edn.specs.Meaning.Tapes.{forms_back}

-- the nodes before the last forms, so many of them
abbrev pub skip : List Node → ℕ → List Node
skip [] n = []
skip (x ∷ xs) zero = x ∷ xs
skip (Atom a ∷ xs) (suc n) = skip xs n
skip (End row m start ∷ xs) (suc n) = skip xs (m + n)

-- none of the nodes is the end of a collection
abbrev pub are_atoms : List Node → Bool
are_atoms [] = true
are_atoms (Atom a ∷ xs) = are_atoms xs
are_atoms (End row n start ∷ xs) = false

-- so many forms may a collection have: a map has a value for each key, and perhaps a namespace
abbrev pub is_fit : Row → ℕ → Bool
is_fit Map n = n % 2 == 0
is_fit NamespacedMap n = n % 2 == 1
is_fit _ n = true

-- the end of each collection has as many forms before it as it says, and names the place where they begin
abbrev pub is_sound : List Node → Bool
is_sound [] = true
is_sound (Atom a ∷ xs) = is_sound xs
is_sound (End row n start ∷ xs) =
    (((start == length (skip xs n)) && nat_le n (length (forms_back xs))) && is_fit row n) && is_sound xs
