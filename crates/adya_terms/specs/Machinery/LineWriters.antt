-- Where a writer is in a line.
use Rattle.std.specs.Prelude.{◌≡◌, ℕ, ◌==◌, List, Option, Some, slice_get, count_by, MatchOption}
use Rattle.std.specs.BTreeMap.{BTreeMap, get}
use Rattle.std.specs.Ordering.{nat_cmp}
use Rattle.txn_table.specs.declared.TxnTable.{TxnTable}
use Rattle.txn_table.specs.Mirror.{HasPlaces}
use Rattle.adya_values.specs.Meaning.Histories.{Order}
use Rattle.adya_terms.specs.Machinery.LinePlaces.{writers_at}

-- a place of the transaction among the writers, or none if it isn't there
abbrev pub IsPlaceOf : Option ℕ → List ℕ → ℕ → Type 0
IsPlaceOf o ts t = MatchOption o (count_by (λ u. u == t) ts ≡ 0) (λ p. slice_get ts p ≡ Some t)

-- a line's table has the places of its writers
abbrev pub AreTables : BTreeMap ℕ (TxnTable ℕ) → List Order → Type 0
AreTables tables os = (line : ℕ) (t : TxnTable ℕ) → get nat_cmp tables line ≡ Some t → HasPlaces t (writers_at os line)
