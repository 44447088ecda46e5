-- What the readings of a stream's two texts say of the stream.
use Rattle.std.proofs.Common.{◌≡◌, List, ℕ, Option, None, Some, IfSome, Result, Ok, Err, subst, sym}
use Rattle.std.specs.Prelude.{IsErrAnd, IsErrOf}
use Rattle.adya_values.specs.Mirror.Histories.{history_of}
use Rattle.adya_values.specs.declared.history.History.{History as HistoryValue}
use Rattle.adya_values.specs.declared.serial.Serial.{Serial}
use Rattle.adya_text.specs.Clauses.Reading.{IsOfText, ReadsHistory, ReadsSerial, ReadsTexts}
use Rattle.adya_text.specs.Clauses.Streams.{history_part, serial_part}
use Rattle.adya_text.specs.declared.read_fault.ReadFault.{ReadFault}
use Rattle.adya_text.specs.declared.read_fault.ReadFault.TheVariants.{Syntax, Device, Memory}
use Rattle.adya_text.specs.declared.read_fault.Text.TheVariants as Of
use Rattle.adya_text.proofs.ReadFaults.{err_is}

-- what a reading of the rest says of the whole
pub with_rest : (a rest : Option (List ℕ)) (P Q R : List ℕ → Type 0) → IfSome a P
    → IfSome a (λ stream. rest ≡ Some (serial_part stream)) → IfSome rest Q
    → ((stream : List ℕ) → P stream → Q (serial_part stream) → R stream) → IfSome a R
with_rest None rest P Q R first left then all = tt
with_rest (Some stream) rest P Q R first left then all =
    all stream first (subst (λ o. IfSome o Q) left then)

pub weaker : (a : Option (List ℕ)) (P R : List ℕ → Type 0) → IfSome a P → ((stream : List ℕ) → P stream → R stream)
    → IfSome a R
weaker None P R first all = tt
weaker (Some stream) P R first all = all stream first

first_fault : (stream : List ℕ) (e : ReadFault) → ReadsHistory (history_part stream) (Err e) → ReadsTexts stream (Err e)
first_fault stream (Syntax Of.History k) fault = fault
first_fault stream (Syntax Of.Serial k) fault = absurd fault
first_fault stream Device fault = tt
first_fault stream Memory fault = tt

pub history_fault : (stream : List ℕ) (e : ReadFault) (result : Result (HistoryValue × Serial) ReadFault)
    → IsErrAnd result (λ f. f ≡ e) → ReadsHistory (history_part stream) (Err e) → ReadsTexts stream result
history_fault stream e result is fault = subst (ReadsTexts stream) (sym (err_is result e is)) (first_fault stream e fault)

second_fault : (stream : List ℕ) (h : HistoryValue) (e : ReadFault) → ReadsHistory (history_part stream) (Ok h)
    → ReadsSerial (serial_part stream) (Err e) → ReadsTexts stream (Err e)
second_fault stream h (Syntax Of.History k) reads fault = absurd fault
second_fault stream h (Syntax Of.Serial k) reads fault = ((history_of h, reads.0, reads.1), fault)
second_fault stream h Device reads fault = tt
second_fault stream h Memory reads fault = tt

pub serial_fault : (stream : List ℕ) (h : HistoryValue) (e : ReadFault) (result : Result (HistoryValue × Serial) ReadFault)
    → IsErrAnd result (λ f. f ≡ e) → ReadsHistory (history_part stream) (Ok h)
    → ReadsSerial (serial_part stream) (Err e) → ReadsTexts stream result
serial_fault stream h e result is reads fault =
    subst (ReadsTexts stream) (sym (err_is result e is)) (second_fault stream h e reads fault)

-- the fault that is passed on
pub passed_to : {T U : Type 0} (result : Result T ReadFault) (e d : ReadFault) → IsErrAnd result (λ f. f ≡ e)
    → IsErrOf result d → IsErrOf {T = U} (Err e) d
passed_to (Ok v) e d is same = absurd is
passed_to (Err f) e d is same = cc

pub passed_from : {T U : Type 0} (result : Result T ReadFault) (e d : ReadFault) → IsErrAnd result (λ f. f ≡ e)
    → IsErrOf {T = U} (Err e) d → IsErrOf result d
passed_from (Ok v) e d is same = absurd is
passed_from (Err f) e d is same = cc

of_same : (T U : Type 0) (e : ReadFault) → IsOfText {T = T} (Err e) → IsOfText {T = U} (Err e)
of_same T U (Syntax text line) of = tt
of_same T U Device of = of
of_same T U Memory of = of

pub passed_of : {T : Type 0} (U : Type 0) (result : Result T ReadFault) (e : ReadFault) → IsErrAnd result (λ f. f ≡ e)
    → IsOfText result → IsOfText {T = U} (Err e)
passed_of {T = T} U result e is of = of_same T U e (subst (λ r. IsOfText r) (err_is result e is) of)
