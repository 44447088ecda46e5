-- What holds of a value that may be there.
use Rattle.std.proofs.Common.{◌≡◌, Bool, true, false, cond, Option, Some, None, refl}
use Rattle.std.specs.Prelude.{IfSome}
use Rattle.adya_line.specs.Computing.Reading.{◌>>=◌}

-- a record, so that its arguments are found
pub record Only {A : Type 0} (o : Option A) (P : A → Type 0) : Type 0 where
  pub holds : IfSome o P

pub nothing : {A : Type 0} {P : A → Type 0} → Only None P
nothing = record { holds = tt }

pub found : {A : Type 0} (x : A) {P : A → Type 0} → P x → Only (Some x) P
found x h = record { holds = h }

-- the same, with more said of it
pub weaken : {A : Type 0} {o : Option A} {P Q : A → Type 0} → Only o P → ((x : A) → P x → Q x) → Only o Q
weaken {o = Some x} h more = record { holds = more x h.holds }
weaken {o = None} h more = nothing

-- one step after the other
pub then : {A B : Type 0} {o : Option A} {f : A → Option B} {P : A → Type 0} {Q : B → Type 0} → Only o P
    → ((x : A) → P x → Only (f x) Q) → Only (o >>= f) Q
then {o = Some x} h more = more x h.holds
then {o = None} h more = nothing

-- one of two, by a test
pub either_by : {A : Type 0} (b : Bool) {x y : Option A} {P : A → Type 0} → (b ≡ true → Only x P) → Only y P
    → Only (cond b x y) P
either_by true yes_then no_then = yes_then refl
either_by false yes_then no_then = no_then
