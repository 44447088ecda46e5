-- What a call that reads a text returns.
use Rattle.std.specs.Prelude.{◌≡◌, ◌⊎◌, ℕ, ◌≤◌, List, length, Option, Result, Ok, Err}
use Rattle.std.specs.Io.KnownBytes.{Consumes, IsAtEnd}
use Rattle.adya_keys.specs.Meaning.Keys.{Bytes}
use Rattle.adya_values.specs.Meaning.Histories.{History}
use Rattle.adya_values.specs.Mirror.Histories.{history_of, serial_txns}
use Rattle.adya_values.specs.declared.history.History.{History as HistoryValue}
use Rattle.adya_values.specs.declared.serial.Serial.{Serial}
use Rattle.adya_text.specs.Meaning.Texts.{IsHistory, IsSerial, history_text, serial_text}
use Rattle.adya_text.specs.Clauses.Grammars.{AreHistoryLines, AreSerialLines}
use Rattle.adya_text.specs.Clauses.Faults.{HasFront, IsFaultLine}
use Rattle.adya_text.specs.Clauses.Streams.{history_part, serial_part}
use Rattle.adya_text.specs.declared.read_fault.ReadFault.{ReadFault}
use Rattle.adya_text.specs.declared.read_fault.ReadFault.TheVariants.{Syntax, Device, Memory}
use Rattle.adya_text.specs.declared.read_fault.Text.TheVariants as Of

-- the result says something of the text: a value, or the line of its fault
abbrev pub IsOfText : {T : Type 0} → Result T ReadFault → Type 0
IsOfText (Ok v) = Unit {0}
IsOfText (Err (Syntax text line)) = Unit {0}
IsOfText (Err Device) = ⊥
IsOfText (Err Memory) = ⊥

-- the history whose text it is, or the line of its fault
abbrev pub ReadsHistory : Bytes → Result HistoryValue ReadFault → Type 0
ReadsHistory text (Ok h) = IsHistory (history_of h) × (text ≡ history_text (history_of h))
ReadsHistory text (Err (Syntax Of.History k)) = IsFaultLine AreHistoryLines text k
ReadsHistory text (Err (Syntax Of.Serial k)) = ⊥
ReadsHistory text (Err Device) = Unit {0}
ReadsHistory text (Err Memory) = Unit {0}

-- the certificate whose text it is, or the line of its fault
abbrev pub ReadsSerial : Bytes → Result Serial ReadFault → Type 0
ReadsSerial text (Ok s) = IsSerial (serial_txns s) × (text ≡ serial_text (serial_txns s))
ReadsSerial text (Err (Syntax Of.Serial k)) = IsFaultLine AreSerialLines text k
ReadsSerial text (Err (Syntax Of.History k)) = ⊥
ReadsSerial text (Err Device) = Unit {0}
ReadsSerial text (Err Memory) = Unit {0}

-- the history and the certificate whose texts the two parts of the stream are, or the line of the first part's fault,
-- or else that of the second's
abbrev pub ReadsTexts : Bytes → Result (HistoryValue × Serial) ReadFault → Type 0
ReadsTexts stream (Ok both) =
    ReadsHistory (history_part stream) (Ok both.0) × ReadsSerial (serial_part stream) (Ok both.1)
ReadsTexts stream (Err (Syntax Of.History k)) = IsFaultLine AreHistoryLines (history_part stream) k
ReadsTexts stream (Err (Syntax Of.Serial k)) =
    ((h : History) × IsHistory h × (history_part stream ≡ history_text h))
    × IsFaultLine AreSerialLines (serial_part stream) k
ReadsTexts stream (Err Device) = Unit {0}
ReadsTexts stream (Err Memory) = Unit {0}

-- what was consumed of the known bytes begins with k complete lines at least
pub record HasReadLines (k : ℕ) (old new : Option Bytes) : Type 0 where
  pub bytes : Bytes
  pub lines : List Bytes
  pub consumed : Consumes old new bytes
  pub front : HasFront bytes lines
  pub within : k ≤ length lines

-- line k was read with its line feed, or all the bytes were
abbrev pub HasReadLine : ℕ → Option Bytes → Option Bytes → Type 0
HasReadLine k old new = HasReadLines k old new ⊎ IsAtEnd new
