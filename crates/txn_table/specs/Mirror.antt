-- What a table says of a transaction.
use Rattle.std.specs.Prelude.{◌≡◌, ℕ, List, slice_get}
use Rattle.std.specs.Option.{unwrap_or}
use Rattle.std.specs.Ordering.{nat_cmp}
use Rattle.std.specs.BTreeMap.{get}
use Rattle.adya_values.specs.Meaning.Orders.{place}
use Rattle.txn_table.specs.declared.TxnTable.{TxnTable}

-- the value in the array, or else in the map, or else the one that all have at first
abbrev pub value_for : {V : Type 0} → TxnTable V → ℕ → V
value_for t u = unwrap_or (slice_get t.small.items u) (unwrap_or (get nat_cmp t.large u) t.initial)

-- the table has how many transactions of the list come before each
abbrev pub HasPlaces : TxnTable ℕ → List ℕ → Type 0
HasPlaces m ts = (t : ℕ) → value_for m t ≡ place ts t
