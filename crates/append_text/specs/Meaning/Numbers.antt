-- Operations whose keys and elements are numbers in place of names.
use Rattle.std.specs.Prelude.{◌≡◌, ℕ, List, Some}
use Rattle.std.specs.List.{AllZip}
use Rattle.append_values.specs.Meaning.Histories.{Operation, Append, Read}
use Rattle.append_text.specs.declared.name.Kept.{Kept}
use Rattle.append_text.specs.Meaning.Names.{Name, named}
use Rattle.append_text.specs.Meaning.Operations.{Step, append, read, Said}
use Rattle.append_text.specs.Meaning.Pairing.{Op}

-- the number is that of the name, if these names are kept
abbrev pub IsNumber : List Kept → Name → ℕ → Type 0
IsNumber kept name number = named kept number ≡ Some name

-- each number stands for the name that it stood for
abbrev pub Keeps : List Kept → List Kept → Type 0
Keeps old new = (name : Name) (n : ℕ) → IsNumber old name n → IsNumber new name n

-- no two numbers are those of one name
abbrev pub IsOneToOne : List Kept → Type 0
IsOneToOne kept = (name : Name) (m n : ℕ) → IsNumber kept name m → IsNumber kept name n → m ≡ n

abbrev pub IsStep : List Kept → Step → Operation → Type 0
IsStep kept (append name other) (Append k x) = IsNumber kept name k × IsNumber kept other x
IsStep kept (read name others) (Read k xs) = IsNumber kept name k × AllZip (IsNumber kept) others xs
IsStep kept _ _ = ⊥

-- the same operation
pub record IsOp (kept : List Kept) (said : Said) (op : Op) : Type 0 where
  pub kind : op.kind ≡ said.kind
  pub label : op.label ≡ said.label
  pub steps : AllZip (IsStep kept) said.steps op.steps
