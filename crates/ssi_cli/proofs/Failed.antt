-- What the result of a call says that failed, or whose fault is passed on.
use Rattle.std.proofs.Common.{◌≡◌, Result, Ok, Err, IfOk, sym, subst}
use Rattle.std.specs.Prelude.{IfErr, IsErr, IsErrAnd, IsErrOf}

pub not_ok : {T E : Type 0} (P : T → Type 0) (result : Result T E) → IsErr result → IfOk result P
not_ok P (Ok v) is = absurd (cc is)
not_ok P (Err e) is = tt

pub no_value : {T E A : Type 0} (result : Result T E) (v : T) → IsErr result → result ≡ Ok v → A
no_value (Ok x) v is same = absurd (cc is)
no_value (Err e) v is same = absurd (cc same)

pub no_fault : {T E A : Type 0} {v : T} {e : E} → Ok v ≡ Err e → A
no_fault same = absurd (cc same)

pub same_value : {T E : Type 0} {v w : T} → ◌≡◌ {A = Result T E} (Ok v) (Ok w) → v ≡ w
same_value same = cc same

-- the fault is the one that was passed on
pub passed_on : {T U E : Type 0} (result : Result T E) (passed e : E) → IsErrAnd result (λ x. x ≡ passed)
    → IsErrOf result e → IsErrOf {T = U} (Err passed) e
passed_on (Ok v) passed e is same = absurd is
passed_on (Err x) passed e is same = cc (is, same)

-- what holds of a fault holds of the result that passes it on
pub of_fault : {T E : Type 0} (P : E → Type 0) (result : Result T E) (passed : E) → IsErrAnd result (λ x. x ≡ passed)
    → P passed → IfErr result P
of_fault P (Ok v) passed is p = absurd is
of_fault P (Err x) passed is p = subst P (sym is) p

pub same_fault : {T E : Type 0} {d e : E} → ◌≡◌ {A = Result T E} (Err d) (Err e) → d ≡ e
same_fault same = cc same
