-- The verdict on a history text and a certificate text.
use Rattle.std.specs.Prelude.{◌≡◌, ◌↔◌, ℕ}
use Rattle.adya_keys.specs.Meaning.Keys.{Bytes}
use Rattle.adya_values.specs.Meaning.Histories.{Txns, History}
use Rattle.adya_values.specs.Clauses.Acceptance.{IsAccepted}
use Rattle.adya_text.specs.declared.read_fault.Text.TheVariants as Of
use Rattle.adya_text.specs.Clauses.Grammars.{AreHistoryLines, AreSerialLines}
use Rattle.adya_text.specs.Clauses.Faults.{IsFaultLine}
use Rattle.adya_audit.specs.Meaning.Verdicts.{Verdict, Yes, Syntax, Malformed, AbortedRead, IntermediateRead, NotTheCommitted, Backward}
use Rattle.adya_audit.specs.Computing.Verdicts.{verdict_of}
use Rattle.adya_text.specs.Clauses.Streams.{history_part, serial_part}
use Rattle.adya_audit.specs.Meaning.Serializable.{AreSerializable, IsSerialTextOf, IsTextOf}

-- the texts are those of a history and a certificate on which this is the verdict
pub record HaveVerdict (history_bytes serial_bytes : Bytes) (v : Verdict) : Type 0 where
  pub history : History
  pub certificate : Txns
  pub history_read : IsTextOf history_bytes history
  pub certificate_read : IsSerialTextOf serial_bytes certificate
  pub same : v ≡ verdict_of history certificate

-- the verdict on two texts: a fault of the first, else one of the second, else the verdict on what they hold
abbrev pub IsVerdictOn : Bytes → Bytes → Verdict → Type 0
IsVerdictOn h c (Syntax Of.History k) = IsFaultLine AreHistoryLines h k
IsVerdictOn h c (Syntax Of.Serial k) = ((x : History) × IsTextOf h x) × IsFaultLine AreSerialLines c k
IsVerdictOn h c Yes = HaveVerdict h c Yes
IsVerdictOn h c (Malformed line rule) = HaveVerdict h c (Malformed line rule)
IsVerdictOn h c (AbortedRead line version) = HaveVerdict h c (AbortedRead line version)
IsVerdictOn h c (IntermediateRead line version) = HaveVerdict h c (IntermediateRead line version)
IsVerdictOn h c NotTheCommitted = HaveVerdict h c NotTheCommitted
IsVerdictOn h c (Backward edge) = HaveVerdict h c (Backward edge)

-- the verdict names a syntax fault of the history text, with its line, exactly if the text has one
abbrev pub NamesHistoryFault : Bytes → Verdict → Type 0
NamesHistoryFault h v = (k : ℕ) → (v ≡ Syntax Of.History k) ↔ IsFaultLine AreHistoryLines h k

-- the texts are those of a history and a certificate that are accepted
pub record AreAccepted (history_bytes serial_bytes : Bytes) : Type 0 where
  pub history : History
  pub certificate : Txns
  pub history_read : IsTextOf history_bytes history
  pub certificate_read : IsSerialTextOf serial_bytes certificate
  pub accepted : IsAccepted history certificate

-- the same of one stream, which is cut after its first line `end`
abbrev pub IsVerdictOnStream : Bytes → Verdict → Type 0
IsVerdictOnStream stream v = IsVerdictOn (history_part stream) (serial_part stream) v

abbrev pub IsAcceptedStream : Bytes → Type 0
IsAcceptedStream stream = AreAccepted (history_part stream) (serial_part stream)

abbrev pub IsSerializableStream : Bytes → Type 0
IsSerializableStream stream = AreSerializable (history_part stream) (serial_part stream)
