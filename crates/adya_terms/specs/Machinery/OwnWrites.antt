-- Where each transaction wrote each key last.
use Rattle.std.specs.Prelude.{ℕ, Option, option_and_then}
use Rattle.std.specs.Option.{option_or}
use Rattle.txn_table.specs.Mirror.{value_for}
use Rattle.adya_values.specs.Mirror.Numbers.{keys_of}
use Rattle.adya_keys.specs.Mirror.{number_in}
use Rattle.adya_terms.specs.declared.own_writes.OwnWrites.{OwnWrites}
use Rattle.adya_terms.specs.Machinery.Chains.{own_place, walk}
use Rattle.adya_terms.specs.Machinery.Tables.{Own}

-- the place of the transaction's last write of the key, which has the number
abbrev pub place_numbered : OwnWrites → Own → ℕ → Option ℕ
place_numbered w q n = option_or (own_place w.later q.txn q.key) (walk w.rows.items n (value_for w.chains q.txn).len (value_for w.chains q.txn).last)

-- the place of the transaction's last write of the key
abbrev pub place_of : OwnWrites → Own → Option ℕ
place_of w q = option_and_then (place_numbered w q) (number_in (keys_of w.events.now) q.key)
