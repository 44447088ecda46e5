-- What the functions that read an operation promise.
use Rattle.std.specs.Prelude.{◌≡◌, ℕ, List, [], ◌∷◌, codes, Option, None, Some, option_map, Result, Ok, Err}
use Rattle.std.specs.Result.{MatchResult}
use Rattle.std.specs.Global.{Vec}
use Rattle.std.specs.List.{AllZip}
use Rattle.edn.specs.Meaning.Forms.{Form, Pairs}
use Rattle.append_values.specs.declared.transaction.Operation.{Operation}
use Rattle.append_values.specs.Meaning.Histories.{operation_of}
use Rattle.append_text.specs.declared.data.Fields.{Fields}
use Rattle.append_text.specs.declared.data.Step.{Step as Triple}
use Rattle.append_text.specs.declared.name.Kept.{Kept}
use Rattle.append_text.specs.declared.operation.Op.{Op as OpValue}
use Rattle.append_text.specs.declared.read_fault.Problem.{Problem}
use Rattle.append_text.specs.declared.read_fault.Refusal.{Refusal}
use Rattle.append_text.specs.declared.read_fault.Refusal.TheVariants as refusal
use Rattle.append_text.specs.declared.text_form.TextForm.{TextForm}
use Rattle.append_text.specs.Meaning.Data.{elements, entries_in, field}
use Rattle.append_text.specs.Meaning.Names.{Name}
use Rattle.append_text.specs.Meaning.Numbers.{IsNumber, IsOp, IsStep, Keeps}
use Rattle.append_text.specs.Meaning.Operations.{Said, Step}
use Rattle.append_text.specs.Machinery.Pairings.{op_of}

-- there is no problem, and P holds of what is said
abbrev pub Says : {X : Type 0} → Result X Problem → (X → Type 0) → Type 0
Says {X} r P = (x : X) × (r ≡ Ok x) × P x

-- there is this problem, or memory ran out
abbrev pub IsRefusal : {X : Type 0} → Refusal → Result X Problem → Type 0
IsRefusal (refusal.Problem p) r = r ≡ Err p
IsRefusal refusal.Memory r = Unit {0}

-- the values of these fields
pub record HasFields {D : Type 0} (n : TextForm) (form : D → Form) (x : Fields D) (ps : Pairs) : Type 0 where
  pub kind : option_map form x.kind ≡ field n (codes "type") ps
  pub f : option_map form x.f ≡ field n (codes "f") ps
  pub value : option_map form x.value ≡ field n (codes "value") ps
  pub process : option_map form x.process ≡ field n (codes "process") ps
  pub index : option_map form x.index ≡ field n (codes "index") ps

-- the fields of a map
abbrev pub AreFields : {D : Type 0} → TextForm → (D → Form) → Fields D → Form → Type 0
AreFields n form x f = (ps : Pairs) × (entries_in f ≡ Some ps) × HasFields n form x ps

-- the parts of a vector of three
abbrev pub IsTriple : {D : Type 0} → (D → Form) → Triple D → Form → Type 0
IsTriple form s f = elements f ≡ Some (form s.f ∷ form s.key ∷ form s.value ∷ [])

-- of what is said, this was read, by names of which there are now more
abbrev pub IsRead : {X V : Type 0} → List Kept → List Kept → Result X Problem → (List Kept → X → V → Type 0) → V → Type 0
IsRead old new said R v = Says said (λ x. R new x v) × Keeps old new

-- the same, or nothing was read because of the problem or for lack of memory
abbrev pub Reads : {X V : Type 0} → Result V Refusal → List Kept → List Kept → Result X Problem
    → (List Kept → X → V → Type 0) → Type 0
Reads result old new said R = MatchResult result (IsRead old new said R) (λ e. IsRefusal e said)

abbrev pub IsStepValue : List Kept → Step → Operation → Type 0
IsStepValue kept s o = IsStep kept s (operation_of o)

-- each is one of those
abbrev pub AreNumbers : List Kept → List Name → Vec ℕ → Type 0
AreNumbers kept names v = AllZip (IsNumber kept) names v.items

abbrev pub AreSteps : List Kept → List Step → Vec Operation → Type 0
AreSteps kept steps v = AllZip (IsStepValue kept) steps v.items

-- the operation, if there is one
abbrev pub IsOpIfAny : List Kept → Option Said → Option OpValue → Type 0
IsOpIfAny kept None None = Unit {0}
IsOpIfAny kept (Some s) (Some o) = IsOp kept s (op_of o)
IsOpIfAny kept _ _ = ⊥
