-- The places of all order lines in one list, and where those of each line start.
use Rattle.std.specs.Prelude.{ℕ, List}
use Rattle.adya_values.specs.Meaning.Histories.{History}
use Rattle.adya_terms.specs.Machinery.LinePlaces.{AreParts}
use Rattle.adya_dsg.specs.Machinery.Choices.{key_at}
use Rattle.adya_dsg.specs.Machinery.Links.{changed_places}

-- the first n lines of the history have these places, and the next line starts where they end
abbrev pub AreChanges : History → List ℕ → List ℕ → ℕ → Type 0
AreChanges h places starts n = AreParts (λ line. changed_places h (key_at h line)) places starts n
