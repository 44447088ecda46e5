-- What a history and a certificate of the code hold: the plain history, and each list.
use Rattle.adya_values.specs.declared.edition.Edition.{Edition}
use Rattle.adya_values.specs.declared.orders.Orders.{Orders}
use Rattle.adya_values.specs.declared.finals.Finals.{Finals}
use Rattle.adya_values.specs.declared.history.History.{History as HistoryValue}
use Rattle.adya_values.specs.declared.serial.Serial.{Serial as SerialValue}
use Rattle.adya_values.specs.Meaning.Histories.{Txns, History}
use Rattle.adya_values.specs.Mirror.Events.{events_of}
use Rattle.adya_values.specs.Mirror.Lines.{finals_of, orders_of}

-- the plain history
abbrev pub history_of : HistoryValue → History
history_of h = record {
  edition = h.edition;
  events = events_of h.events;
  unfinished = h.unfinished.items;
  orders = orders_of h.orders;
  finals = finals_of h.finals;
}

abbrev pub edition_in : HistoryValue → Edition
edition_in h = h.edition

abbrev pub unfinished_in : HistoryValue → Txns
unfinished_in h = h.unfinished.items

abbrev pub orders_in : HistoryValue → Orders
orders_in h = h.orders

abbrev pub finals_in : HistoryValue → Finals
finals_in h = h.finals

-- the transactions of a certificate, in order
abbrev pub serial_txns : SerialValue → Txns
serial_txns s = s.txns.items
