-- Options that are empty or not.
use Rattle.std.proofs.Common.{◌≡◌, Bool, true, false, cond, ◌||◌, Option, Some, None, is_some, is_none, refl}
use Rattle.std.specs.Option.{option_or}

pub none_from : {X : Type 0} (o : Option X) → is_none o ≡ true → o ≡ None
none_from None e = refl
none_from (Some x) e = absurd (cc (e))

pub none_unless_some : {X : Type 0} (o : Option X) → is_some o ≡ false → o ≡ None
none_unless_some None e = refl
none_unless_some (Some x) e = absurd (cc (e))

pub some_unless_none : {X : Type 0} (o : Option X) → (o ≡ None → ⊥) → is_some o ≡ true
some_unless_none None h = absurd (h refl)
some_unless_none (Some x) h = refl

pub some_value : {X : Type 0} (o : Option X) → is_some o ≡ true → (x : X) × (o ≡ Some x)
some_value None e = absurd (cc (e))
some_value (Some x) e = (x, refl)

pub is_some-cond : {X : Type 0} (b : Bool) (x : X) (o : Option X) → is_some (cond b (Some x) o) ≡ (b || is_some o)
is_some-cond true x o = refl
is_some-cond false x o = refl

pub option_or-none : {X : Type 0} (o : Option X) → option_or o None ≡ o
option_or-none None = refl
option_or-none (Some x) = refl

pub option_or-some : {X : Type 0} (o p : Option X) → is_some o ≡ true → option_or o p ≡ o
option_or-some None p e = absurd (cc (e))
option_or-some (Some x) p e = refl
