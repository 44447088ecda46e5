-- What a text says, and what is wrong with one that is that of no history.
use Rattle.std.specs.Prelude.{◌≡◌, ◌⊎◌, ℕ, ◌-◌, ◌^◌, min, not, List, [], ◌∷◌, ◌++◌, length, map, flat_map, Option, Some, None, Result, Ok, Err}
use Rattle.std.specs.List.{AllZip, filter}
use Rattle.edn.specs.Meaning.Forms.{Form, list, forms_of}
use Rattle.edn.specs.Meaning.Blame.{HasFault}
use Rattle.edn.specs.Meaning.Lexing.{Lexes}
use Rattle.edn.specs.Meaning.Lines.{line_after}
use Rattle.edn.specs.Meaning.Tokens.{Token}
use Rattle.edn.specs.Meaning.Texts.{IsText, AreSoFar}
use Rattle.edn.specs.declared.read_fault.Problem.{Problem as EdnProblem}
use Rattle.edn.specs.declared.reader.Stage.{Stage}
use Rattle.append_values.specs.Meaning.Histories.{transaction_of}
use Rattle.append_text.specs.declared.history.History.{History}
use Rattle.append_text.specs.declared.history.PassedOver.{PassedOver}
use Rattle.append_text.specs.declared.name.Kept.{Kept}
use Rattle.append_text.specs.declared.read_fault.Place.TheVariants.{Line, Element}
use Rattle.append_text.specs.declared.read_fault.Problem.{Problem}
use Rattle.append_text.specs.declared.read_fault.Problem.TheVariants as problem
use Rattle.append_text.specs.declared.read_fault.ReadFault.{ReadFault}
use Rattle.append_text.specs.declared.read_fault.ReadFault.TheVariants.{Text, Device, Memory}
use Rattle.append_text.specs.declared.text_form.TextForm.{TextForm}
use Rattle.append_text.specs.declared.text_form.TextForm.TheVariants as notation
use Rattle.append_text.specs.Meaning.Numbers.{IsOneToOne, IsOp}
use Rattle.append_text.specs.Meaning.Data.{parts}
use Rattle.append_text.specs.Meaning.Operations.{Said, said, is_of_txn}
use Rattle.append_text.specs.Meaning.Pairing.{Op, MayFollow, transactions}

-- what 64 bits count: up to the greatest number
unfoldable pub counted : ℕ → ℕ
counted n = min n (2 ^ 64 - 1)

-- the form says this, if these stand before it
abbrev pub said_after : TextForm → List Form → Form → Result (Option Said) Problem
said_after n fs f = said n (counted (length fs)) f

-- each form is one of these operations, in the same order, or one of those that are passed over
pub data AreOperations : TextForm → List Form → List Said → List Form → Type 0 where
  no_forms : {n : TextForm} → AreOperations n [] [] []
  operation : {n : TextForm} {fs : List Form} {os : List Said} {passed : List Form} (f : Form) (o : Said) → AreOperations n fs os passed
      → said_after n fs f ≡ Ok (Some o) → AreOperations n (fs ++ f ∷ []) (os ++ o ∷ []) passed
  passed_over : {n : TextForm} {fs : List Form} {os : List Said} {passed : List Form} (f : Form) → AreOperations n fs os passed
      → said_after n fs f ≡ Ok None → AreOperations n (fs ++ f ∷ []) os (passed ++ f ∷ [])

-- so many of the forms that are passed over have another `:f`, and so many another `:process`
pub record ArePassed (n : TextForm) (passed : List Form) (p : PassedOver) : Type 0 where
  pub other_function : p.other_function ≡ counted (length (filter (λ f. not (is_of_txn n f)) passed))
  pub other_process : p.other_process ≡ counted (length (filter (is_of_txn n) passed))

-- each operation may come after those before it
pub data AreInOrder : List Op → Type 0 where
  no_operations : AreInOrder []
  one_more : {ops : List Op} (o : Op) → AreInOrder ops → MayFollow ops o → AreInOrder (ops ++ o ∷ [])

-- the forms are these operations, whose names have numbers by those that are kept
pub record AreNumbered (n : TextForm) (kept : List Kept) (fs : List Form) (passed : List Form) (ops : List Op) : Type 0 where
  pub said : List Said
  pub operations : AreOperations n fs said passed
  pub numbered : AllZip (IsOp kept) said ops
  pub in_order : AreInOrder ops

-- the history that the forms say
pub record IsHistory (n : TextForm) (fs : List Form) (h : History) : Type 0 where
  pub ops : List Op
  pub passed : List Form
  pub numbered : AreNumbered n h.names.kept.keys fs passed ops
  pub transactions_are : map transaction_of h.transactions.items ≡ map (λ f. f.transaction) (transactions ops)
  pub labels_are : h.labels.items ≡ map (λ f. f.label) (transactions ops)
  pub passed_are : ArePassed n passed h.passed_over
  pub one_to_one : IsOneToOne h.names.kept.keys

-- the forms are operations in order
pub record AreAllowed (n : TextForm) (fs : List Form) : Type 0 where
  pub kept : List Kept
  pub one_to_one : IsOneToOne kept
  pub passed : List Form
  pub ops : List Op
  pub numbered : AreNumbered n kept fs passed ops

-- these forms are operations in order, and this is wrong with the one that follows them: it is no operation, or one that can't
-- come there
pub record IsWrongAfter (n : TextForm) (fs : List Form) (f : Form) (p : Problem) : Type 0 where
  pub before : AreAllowed n fs
  pub wrong : (said_after n fs f ≡ Err p) ⊎ ((s : Said) × (o : Op) × (said_after n fs f ≡ Ok (Some s)) × IsOp before.kept s o
      × (MayFollow before.ops o → ⊥))

-- ---- in EDN

-- the text begins with these forms, and the last of them ends on the line
pub record EndsOn (text : List ℕ) (fs : List Form) (line : ℕ) : Type 0 where
  pub stage : Stage
  pub tokens : List Token
  pub front : List ℕ
  pub rest : List ℕ
  pub split : text ≡ front ++ rest
  pub lexes : Lexes text tokens rest
  pub forms : AreSoFar stage tokens fs
  pub line_is : line ≡ line_after front

-- the form that ends on the line is no list, and the first that is no operation, or can't come there
pub record HasOther (text : List ℕ) (line : ℕ) (p : Problem) : Type 0 where
  pub before : List Form
  pub form : Form
  pub ends : EndsOn text (before ++ form ∷ []) line
  pub one : parts form ≡ form ∷ []
  pub wrong : IsWrongAfter notation.Edn (flat_map parts before) form p

-- the element at this place of a list is the first form that is no operation, or can't come there
pub record HasOtherListed (text : List ℕ) (place : ℕ) (p : Problem) : Type 0 where
  pub before : List Form
  pub front : List Form
  pub form : Form
  pub back : List Form
  pub line : ℕ
  pub ends : EndsOn text (before ++ list (forms_of (front ++ form ∷ back)) ∷ []) line
  pub place_is : place ≡ length front
  pub wrong : IsWrongAfter notation.Edn (flat_map parts before ++ front) form p

-- this is the first that is wrong with a text in EDN
abbrev pub IsFirstProblem : List ℕ → ℕ → Problem → Type 0
IsFirstProblem bytes line p = ((q : EdnProblem) × (p ≡ problem.Edn q) × HasFault bytes line q) ⊎ HasOther bytes line p

abbrev pub IsFaultOf : List ℕ → ReadFault → Type 0
IsFaultOf bytes (Text (Line line) p) = IsFirstProblem bytes line p
IsFaultOf bytes (Text (Element k) p) = HasOtherListed bytes k p
IsFaultOf bytes Device = Unit {0}
IsFaultOf bytes Memory = Unit {0}

-- the history that a text in EDN says: that of its forms, or of the elements of one that is a list
abbrev pub IsHistoryOf : List ℕ → History → Type 0
IsHistoryOf bytes h = (fs : List Form) × IsText bytes fs × IsHistory notation.Edn (flat_map parts fs) h
