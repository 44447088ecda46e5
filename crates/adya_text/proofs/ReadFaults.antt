-- What the result of a call that reads a text says of the device.
use Rattle.std.proofs.Common.{◌≡◌, ◌⊎◌, ℕ, List, Option, None, Some, IfSome, Result, Ok, Err, refl, sym, ap, subst, inl, inr}
use Rattle.std.specs.Prelude.{IsErrAnd, IsErrOf, MatchResult}
use Rattle.adya_text.specs.Clauses.Reading.{IsOfText}
use Rattle.adya_text.specs.Machinery.LineFaults.{fault_of}
use Rattle.adya_text.specs.declared.lines.LineFault.{LineFault}
use Rattle.adya_text.specs.declared.lines.LineFault.TheVariants as OfLine
use Rattle.adya_text.specs.declared.read_fault.ReadFault.{ReadFault}
use Rattle.adya_text.specs.declared.read_fault.ReadFault.TheVariants.{Syntax, Device, Memory}

-- what holds of any bytes
pub of_any : (a : Option (List ℕ)) (P : List ℕ → Type 0) → ((text : List ℕ) → P text) → IfSome a P
of_any None P all = tt
of_any (Some text) P all = all text

pub text_no_device : {T : Type 0} (result : Result T ReadFault) → IsOfText result → IsErrOf result Device → ⊥
text_no_device (Ok v) of is = absurd cc
text_no_device (Err (Syntax text line)) of is = absurd cc
text_no_device (Err Device) of is = of
text_no_device (Err Memory) of is = of

pub ok_no_error : {T E : Type 0} {v : T} {e : E} → Ok v ≡ Err e → ⊥
ok_no_error is = absurd cc

pub err_is : {T E : Type 0} (result : Result T E) (e : E) → IsErrAnd result (λ x. x ≡ e) → IsErrOf result e
err_is (Ok v) e is = absurd is
err_is (Err x) e is = ap Err is

-- memory ran out
pub of_memory : {T : Type 0} (P : Result T ReadFault → Type 0) (result : Result T ReadFault)
    → IsErrAnd result (λ e. e ≡ Memory) → P (Err Memory) → P result
of_memory P (Ok v) is p = absurd is
of_memory P (Err e) is p = subst (λ f. P (Err f)) (sym is) p

pub memory_no_device : {T : Type 0} (result : Result T ReadFault) → IsErrAnd result (λ e. e ≡ Memory)
    → IsErrOf result Device → ⊥
memory_no_device result is = of_memory (λ r. IsErrOf r Device → ⊥) result is (λ same. absurd cc)

-- no line came
pub of_no_line : {T : Type 0} (P : Result T ReadFault → Type 0) (result : Result T ReadFault) (fault : LineFault)
    → IsErrAnd result (λ e. e ≡ fault_of fault) → P (Err Device) → P (Err Memory) → P result
of_no_line P (Ok v) fault is device memory = absurd is
of_no_line P (Err e) OfLine.Device is device memory = subst (λ f. P (Err f)) (sym is) device
of_no_line P (Err e) OfLine.Memory is device memory = subst (λ f. P (Err f)) (sym is) memory

-- the device failed if and only if it failed to give the line
pub line_device : {T U : Type 0} (result : Result T ReadFault) (fault : LineFault)
    → IsErrAnd result (λ e. e ≡ fault_of fault) → IsErrOf result Device → IsErrOf {T = U} (Err fault) OfLine.Device
line_device result OfLine.Device is failed = refl
line_device result OfLine.Memory is failed = absurd (memory_no_device result is failed)

pub device_line : {T U : Type 0} (result : Result T ReadFault) (fault : LineFault)
    → IsErrAnd result (λ e. e ≡ fault_of fault) → IsErrOf {T = U} (Err fault) OfLine.Device → IsErrOf result Device
device_line (Ok v) fault is failed = absurd is
device_line (Err e) OfLine.Device is failed = cc
device_line (Err e) OfLine.Memory is failed = absurd cc

-- no bytes are kept, so memory can't run out
pub only_device : {U : Type 0} (fault : LineFault) → (IsErrOf {T = U} (Err fault) OfLine.Memory → ⊥)
    → IsErrOf {T = U} (Err fault) OfLine.Device
only_device OfLine.Device none = refl
only_device OfLine.Memory none = absurd (none refl)

pub only_fault : {T : Type 0} (P : T → Type 0) (result : Result T ReadFault) (fault : LineFault)
    → IsErrAnd result (λ e. e ≡ fault_of fault) → MatchResult result P (λ e. (e ≡ Device) ⊎ (e ≡ Memory))
only_fault P result fault is =
    of_no_line (λ r. MatchResult r P (λ e. (e ≡ Device) ⊎ (e ≡ Memory))) result fault is (inl refl) (inr refl)
