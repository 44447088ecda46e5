-- The lines that packed orders and finals stand for.
use Rattle.std.specs.Prelude.{List, map}
use Rattle.adya_values.specs.Meaning.Histories.{FinalPair, Order}
use Rattle.adya_keys.specs.Machinery.Lines.{lines_of}
use Rattle.adya_values.specs.declared.orders.Orders.{Orders}
use Rattle.adya_values.specs.declared.finals.Finals.{Finals}

abbrev pub orders_of : Orders → List Order
orders_of os = map (λ l. record { key = l.0; writers = l.1 }) (lines_of os.lines)

abbrev pub finals_of : Finals → List FinalPair
finals_of fs = map (λ l. record { key = l.0; value = l.1 }) (lines_of fs.lines)
