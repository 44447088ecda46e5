-- The answers of a search for a certificate.
use Rattle.std.specs.Prelude.{◌≡◌, List, map}
use Rattle.adya_keys.specs.Meaning.Keys.{Bytes}
use Rattle.adya_values.specs.Mirror.Histories.{serial_txns}
use Rattle.adya_values.specs.Meaning.Histories.{Txns, History}
use Rattle.adya_values.specs.Meaning.Edges.{Edge, IsCycle}
use Rattle.adya_values.specs.Clauses.Acceptance.{IsAccepted, IsChecked}
use Rattle.adya_text.specs.declared.read_fault.Text.TheVariants as Of
use Rattle.adya_text.specs.Meaning.Texts.{IsSerial, serial_text}
use Rattle.adya_dsg.specs.Mirror.{edge_of}
use Rattle.adya_dsg.specs.Clauses.Found.{HasCertificate, IsSimple}
use Rattle.adya_audit.specs.declared.answer.Answer.{Answer as AnswerValue}
use Rattle.adya_audit.specs.declared.answer.Answer.TheVariants as Holds
use Rattle.adya_audit.specs.declared.ordered.Ordered.{Ordered}
use Rattle.adya_audit.specs.declared.ordered.Ordered.TheVariants as Said
use Rattle.adya_audit.specs.Meaning.Verdicts.{Verdict, Syntax, Malformed, AbortedRead, IntermediateRead}
use Rattle.adya_audit.specs.Computing.Verdicts.{plain_verdict, verdict_of}
use Rattle.adya_audit.specs.Clauses.Output.{verdict_line, cycle_text}
use Rattle.adya_audit.specs.Clauses.TextVerdicts.{IsVerdictOn, AreAccepted}
use Rattle.adya_audit.specs.Meaning.Serializable.{IsTextOf, AreSerializable}

-- a certificate, a cycle, or the verdict on the history
pub data Answer : Type 0 where
  Certificate : (txns : Txns) → Answer
  Cycle : (edges : List Edge) → Answer
  Refusal : (verdict : Verdict) → Answer

-- the plain answer that an answer holds
abbrev pub answer_of : AnswerValue → Answer
answer_of (Holds.Certificate s) = Certificate (serial_txns s)
answer_of (Holds.Cycle es) = Cycle (map edge_of es.items)
answer_of (Holds.Refusal v) = Refusal (plain_verdict v)

abbrev pub answer_text : Answer → Bytes
answer_text (Certificate ts) = serial_text ts
answer_text (Cycle es) = cycle_text es
answer_text (Refusal v) = verdict_line v

-- the kind that is returned is that of the answer
abbrev pub Tells : Ordered → Answer → Type 0
Tells Said.Serial a = (ts : Txns) × (a ≡ Certificate ts)
Tells Said.Cycle a = (es : List Edge) × (a ≡ Cycle es)
Tells (Said.No v) a = a ≡ Refusal (plain_verdict v)

-- the verdict is of kinds 1 to 4
abbrev pub IsOnHistory : Verdict → Type 0
IsOnHistory (Syntax Of.History k) = Unit {0}
IsOnHistory (Malformed line rule) = Unit {0}
IsOnHistory (AbortedRead line version) = Unit {0}
IsOnHistory (IntermediateRead line version) = Unit {0}
IsOnHistory _ = ⊥

-- the answer to a history, as a value
abbrev pub IsAnswerOn : History → Answer → Type 0
IsAnswerOn h (Certificate ts) = IsAccepted h ts
IsAnswerOn h (Cycle es) = IsChecked h × IsCycle h es × IsSimple es × (HasCertificate h → ⊥)
IsAnswerOn h (Refusal v) = IsOnHistory v × ((ts : Txns) → v ≡ verdict_of h ts)

-- the text is that of a history without a fault, which has this cycle; the cycle goes through no transaction twice
pub record HasCycle (text : Bytes) (es : List Edge) : Type 0 where
  pub history : History
  pub history_read : IsTextOf text history
  pub checked : IsChecked history
  pub cycle : IsCycle history es
  pub simple : IsSimple es

-- the answer to a history text: a certificate that is accepted with it, in whose order it is serializable; a simple cycle
-- of its edges, if no certificate is accepted; or the verdict on it, which is the same for all certificates
abbrev pub IsAnswer : Bytes → Answer → Type 0
IsAnswer text (Certificate ts) = AreAccepted text (serial_text ts) × AreSerializable text (serial_text ts)
IsAnswer text (Cycle es) = HasCycle text es × ((certificate : Bytes) → AreAccepted text certificate → ⊥)
IsAnswer text (Refusal v) = IsOnHistory v × ((ts : Txns) → IsSerial ts → IsVerdictOn text (serial_text ts) v)
