-- The start of a line that is already too long for a text.
use Rattle.std.proofs.Common.{◌≡◌, ℕ, List, [], ◌∷◌, ◌++◌, Option, None, Some, arith}
use Rattle.std.proofs.lemmas.List.{length-append}
use Rattle.adya_text.specs.Machinery.LongLines.{IsLonger}

pub longer_some : (longest : Option ℕ) (bytes : List ℕ) → IsLonger longest bytes → bytes ≡ [] → ⊥
longer_some None bytes longer empty = longer
longer_some (Some most) [] longer empty = omega (arith, longer)
longer_some (Some most) (b ∷ bytes) longer empty = cc

pub longer_with : (longest : Option ℕ) (bytes more : List ℕ) → IsLonger longest bytes → IsLonger longest (bytes ++ more)
longer_with None bytes more longer = longer
longer_with (Some most) bytes more longer = omega (arith, longer, length-append bytes more)
