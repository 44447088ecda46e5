-- The verdict on what was read of two texts.
use Rattle.std.proofs.Common.{◌≡◌, ℕ, Bool, true, false, cond, List, Option, Some, None, IfSome, Ok, Err}
use Rattle.adya_values.specs.Computing.Faults as faults
use Rattle.adya_values.specs.declared.history.History.{History}
use Rattle.adya_values.specs.declared.serial.Serial.{Serial}
use Rattle.adya_values.specs.Meaning.Histories.{History as Plain}
use Rattle.adya_values.specs.Meaning.Edges.{Edge}
use Rattle.adya_values.specs.Mirror.Histories.{history_of}
use Rattle.adya_values.specs.Computing.Faults.{Fault, first_fault}
use Rattle.adya_values.specs.Computing.Certificates.{lists_the_committed, first_backward}
use Rattle.adya_text.specs.declared.read_fault.ReadFault.TheVariants.{Syntax}
use Rattle.adya_text.specs.declared.read_fault.Text.{Text}
use Rattle.adya_text.specs.declared.read_fault.Text.TheVariants as Of
use Rattle.adya_text.specs.Clauses.Grammars.{AreHistoryLines}
use Rattle.adya_text.specs.Clauses.Faults.{IsFaultLine}
use Rattle.adya_text.specs.Clauses.Streams.{history_part, serial_part}
use Rattle.adya_text.specs.Clauses.Reading.{ReadsHistory, ReadsSerial, ReadsTexts}
use Rattle.adya_audit.specs.Meaning.Verdicts.{Verdict, Yes, Malformed, AbortedRead, IntermediateRead, NotTheCommitted, Backward}
use Rattle.adya_audit.specs.Computing.Verdicts.{edge_verdict, fault_verdict, verdict_of}
use Rattle.adya_audit.specs.Meaning.Verdicts as Said
use Rattle.adya_audit.specs.Clauses.TextVerdicts.{HaveVerdict, IsVerdictOn, IsVerdictOnStream}
use Rattle.adya_audit.specs.Meaning.Serializable.{IsTextOf, IsSerialTextOf}

-- a syntax fault of a reader is of the text that it reads
pub history_fault : (h : List ℕ) (text : Text) (line : ℕ) → ReadsHistory h (Err (Syntax text line))
    → IsFaultLine AreHistoryLines h line
history_fault h Of.History line r = r
history_fault h Of.Serial line r = absurd r

-- the verdict on values is no syntax fault
pub no_syntax : (f : Option Fault) (b : Bool) (o : Option Edge) (text : Text) (line : ℕ)
    → Said.Syntax text line ≡ fault_verdict f (cond b (edge_verdict o) NotTheCommitted) → ⊥
no_syntax None true None text line e = cc (e)
no_syntax None true (Some x) text line e = cc (e)
no_syntax None false o text line e = cc (e)
no_syntax (Some (faults.Malformed l rule)) b o text line e = cc (e)
no_syntax (Some (faults.AbortedRead l version)) b o text line e = cc (e)
no_syntax (Some (faults.IntermediateRead l version)) b o text line e = cc (e)

-- the verdict on texts is that on the values that they hold
module _ (text certificate : List ℕ) (h : Plain) (ts : List ℕ) (is_h : IsTextOf text h)
    (is_ts : IsSerialTextOf certificate ts) where
  have_verdict : (v : Verdict) → v ≡ verdict_of h ts → HaveVerdict text certificate v
  have_verdict v e =
      record { history = h; certificate = ts; history_read = is_h; certificate_read = is_ts; same = e }

  pub verdict_on_texts : (v : Verdict) → v ≡ verdict_of h ts → IsVerdictOn text certificate v
  verdict_on_texts Yes e = have_verdict Yes e
  verdict_on_texts (Said.Syntax text line) e =
      absurd (no_syntax (first_fault h) (lists_the_committed h ts) (first_backward h ts) text line e)
  verdict_on_texts (Malformed line rule) e = have_verdict (Malformed line rule) e
  verdict_on_texts (AbortedRead line version) e = have_verdict (AbortedRead line version) e
  verdict_on_texts (IntermediateRead line version) e = have_verdict (IntermediateRead line version) e
  verdict_on_texts NotTheCommitted e = have_verdict NotTheCommitted e
  verdict_on_texts (Backward edge) e = have_verdict (Backward edge) e

pub text_read : (text : List ℕ) (x : History) → ReadsHistory text (Ok x) → IsTextOf text (history_of x)
text_read text x r = record { is_history = r.0; same = r.1 }

-- the same of texts that were read
verdict_read : (h c : List ℕ) (x : History) (s : Serial) → ReadsHistory h (Ok x) → ReadsSerial c (Ok s) → (v : Verdict)
    → v ≡ verdict_of (history_of x) s.txns.items → IsVerdictOn h c v
verdict_read h c x s r t =
    verdict_on_texts h c (history_of x) s.txns.items (text_read h x r) (record { is_serial = t.0; same = t.1 })

-- the same of two known texts
pub verdict_on_two : (first second : Option (List ℕ)) (x : History) (s : Serial) (v : Verdict)
    → IfSome first (λ h. ReadsHistory h (Ok x)) → IfSome second (λ c. ReadsSerial c (Ok s))
    → v ≡ verdict_of (history_of x) s.txns.items → IfSome first (λ h. IfSome second (λ c. IsVerdictOn h c v))
verdict_on_two None second x s v r t e = tt
verdict_on_two (Some h) None x s v r t e = tt
verdict_on_two (Some h) (Some c) x s v r t e = verdict_read h c x s r t v e

-- the same of the two texts of one known stream
pub verdict_on_one : (known : Option (List ℕ)) (texts : History × Serial) (v : Verdict)
    → IfSome known (λ stream. ReadsTexts stream (Ok texts)) → v ≡ verdict_of (history_of texts.0) texts.1.txns.items
    → IfSome known (λ stream. IsVerdictOnStream stream v)
verdict_on_one None texts v r e = tt
verdict_on_one (Some stream) texts v r e =
    verdict_read (history_part stream) (serial_part stream) texts.0 texts.1 r.0 r.1 v e

-- a syntax fault of one of them is the verdict
pub fault_on_one : (known : Option (List ℕ)) (text : Text) (line : ℕ)
    → IfSome known (λ stream. ReadsTexts stream (Err (Syntax text line)))
    → IfSome known (λ stream. IsVerdictOnStream stream (Said.Syntax text line))
fault_on_one None text line r = tt
fault_on_one (Some stream) Of.History line r = r
fault_on_one (Some stream) Of.Serial line r = ((r.0.0, record { is_history = r.0.1; same = r.0.2 }), r.1)
