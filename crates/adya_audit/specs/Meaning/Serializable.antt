-- What a certificate shows of a history.
use Rattle.std.specs.Prelude.{◌≡◌}
use Rattle.adya_values.specs.Meaning.Histories.{Txns, History}
use Rattle.adya_values.specs.Meaning.Phenomena.{HasG1, HasG2}
use Rattle.adya_values.specs.Meaning.Serial.{Agrees}
use Rattle.adya_keys.specs.Meaning.Keys.{Bytes}
use Rattle.adya_text.specs.Meaning.Texts.{IsHistory, IsSerial, history_text, serial_text}

-- the history has neither G1 nor G2, and its committed transactions, run serially in this order, give all reads and
-- scans that it records, and its final contents
pub record IsSerializableBy (h : History) (ts : Txns) : Type 0 where
  pub no_g1 : HasG1 h → ⊥
  pub no_g2 : HasG2 h → ⊥
  pub agrees : Agrees h ts

pub record IsTextOf (text : Bytes) (h : History) : Type 0 where
  pub is_history : IsHistory h
  pub same : text ≡ history_text h

pub record IsSerialTextOf (text : Bytes) (ts : Txns) : Type 0 where
  pub is_serial : IsSerial ts
  pub same : text ≡ serial_text ts

-- the texts are those of a history and a certificate by which it is serializable
pub record AreSerializable (history_bytes serial_bytes : Bytes) : Type 0 where
  pub history : History
  pub certificate : Txns
  pub history_read : IsTextOf history_bytes history
  pub certificate_read : IsSerialTextOf serial_bytes certificate
  pub serializable : IsSerializableBy history certificate
