-- Tables of the writers of order lines.
use Rattle.std.specs.Prelude.{◌≡◌, ℕ, Some}
use Rattle.std.specs.BTreeMap.{BTreeMap, get}
use Rattle.std.specs.Ordering.{nat_cmp}
use Rattle.adya_values.specs.Meaning.Histories.{History}
use Rattle.adya_values.specs.Meaning.Orders.{writers}
use Rattle.adya_dsg.specs.declared.txn_places.TxnPlaces.{TxnPlaces}
use Rattle.adya_dsg.specs.Machinery.Choices.{key_at}

-- each table is of the writers of its line
abbrev pub AreTables : History → BTreeMap ℕ TxnPlaces → Type 0
AreTables h tables = (line : ℕ) (t : TxnPlaces) → get nat_cmp tables line ≡ Some t → t.txns.now ≡ writers h (key_at h line)
