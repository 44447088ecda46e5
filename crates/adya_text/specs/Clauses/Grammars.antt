-- The lists of lines that the texts of histories and of certificates have.
use Rattle.std.specs.Prelude.{◌≡◌, List}
use Rattle.adya_keys.specs.Meaning.Keys.{Bytes}
use Rattle.adya_values.specs.Meaning.Histories.{Txns, History}
use Rattle.adya_text.specs.Meaning.Texts.{IsHistory, IsSerial, history_lines, serial_lines}

-- the lines of a history
abbrev pub AreHistoryLines : List Bytes → Type 0
AreHistoryLines lines = (h : History) × IsHistory h × (lines ≡ history_lines h)

-- the lines of a certificate
abbrev pub AreSerialLines : List Bytes → Type 0
AreSerialLines lines = (ts : Txns) × IsSerial ts × (lines ≡ serial_lines ts)
