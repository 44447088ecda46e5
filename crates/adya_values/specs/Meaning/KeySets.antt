-- Rising lists of keys.
use Rattle.std.specs.Prelude.{if◌then◌else◌, List, [], ◌∷◌}
use Rattle.adya_keys.specs.Meaning.Keys.{Key, key_eq, key_lt}

-- with the key in its place, unless it has it already
abbrev pub insert : Key → List Key → List Key
insert k [] = k ∷ []
insert k (j ∷ js) = if key_lt k j then k ∷ j ∷ js else if key_eq k j then j ∷ js else j ∷ insert k js
