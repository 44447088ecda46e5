-- Which operation of a transaction a form is, if it is one.
use Rattle.std.specs.Prelude.{ℕ, ℤ, pos, negsuc, Bool, false, nat_eq, List, [], ◌∷◌, codes, Option, Some, None, if◌then◌else◌, Result, Ok, Err}
use Rattle.std.specs.Option.{ok_or, option_map_or, option_and_then}
use Rattle.std.specs.Cmp.Lexicographic.{pointwise}
use Rattle.edn.specs.Meaning.Forms.{Form, Pairs}
use Rattle.append_text.specs.declared.history.Label.{Label}
use Rattle.append_text.specs.declared.operation.Kind.{Kind}
use Rattle.append_text.specs.declared.operation.Kind.TheVariants as kind
use Rattle.append_text.specs.declared.read_fault.Problem.{Problem}
use Rattle.append_text.specs.declared.read_fault.Problem.TheVariants as problem
use Rattle.append_text.specs.declared.text_form.TextForm.{TextForm}
use Rattle.append_text.specs.Meaning.Names.{Name}
use Rattle.append_text.specs.Meaning.Data.{is_nil, integer_in, process_number, word, is_word, name_in, elements, entries_in, field}

-- a step, with the names of its key and its elements
pub data Step : Type 0 where
  append : (key element : Name) → Step
  read : (key : Name) (elements : List Name) → Step

-- an operation, with the names of its keys and elements
pub record Said : Type 0 where
  pub kind : Kind
  pub label : Label
  pub steps : List Step

-- f of the value, unless there is a problem before
abbrev pub and_then : {T U : Type 0} → (T → Result U Problem) → Result T Problem → Result U Problem
and_then f (Ok x) = f x
and_then f (Err p) = Err p

-- f of each, or the first problem
abbrev pub each : {T U : Type 0} → (T → Result U Problem) → List T → Result (List U) Problem
each f [] = Ok []
each f (x ∷ xs) = and_then (λ y. and_then (λ ys. Ok (y ∷ ys)) (each f xs)) (f x)

-- ---- steps

abbrev pub name : Form → Result Name Problem
name f = ok_or (name_in f) problem.Name

-- what a read got: `nil` is the empty list
abbrev pub names : Form → Result (List Name) Problem
names f = if is_nil f then Ok [] else and_then (each name) (ok_or (elements f) problem.Step)

abbrev pub append_of : Form → Form → Result Step Problem
append_of key element = and_then (λ k. and_then (λ x. Ok (append k x)) (name element)) (name key)

abbrev pub read_of : Form → Form → Result Step Problem
read_of key got = and_then (λ k. and_then (λ xs. Ok (read k xs)) (names got)) (name key)

-- a step begins with its word
abbrev pub step_of : Option (List ℕ) → Form → Form → Result Step Problem
step_of None key value = Err problem.Step
step_of (Some bytes) key value =
    if pointwise nat_eq bytes (codes "append") then append_of key value else
    if pointwise nat_eq bytes (codes "r") then read_of key value else Err problem.Step

-- it has three parts
abbrev pub step_in : TextForm → List Form → Result Step Problem
step_in n (f ∷ key ∷ value ∷ []) = step_of (word n f) key value
step_in n _ = Err problem.Step

abbrev pub step : TextForm → Form → Result Step Problem
step n f = and_then (step_in n) (ok_or (elements f) problem.Step)

-- an operation of this kind may lack its steps
abbrev pub no_steps : Kind → Result (List Step) Problem
no_steps kind.Fail = Ok []
no_steps kind.Info = Ok []
no_steps kind.Invoke = Err problem.Step
no_steps kind.Ok = Err problem.Step

abbrev pub steps_in : TextForm → Kind → Option (List Form) → Result (List Step) Problem
steps_in n k None = no_steps k
steps_in n k (Some fs) = each (step n) fs

-- it lacks them if it has no `:value`, or one that is no list, as `nil` or what is said of a timeout
abbrev pub steps : TextForm → Kind → Option Form → Result (List Step) Problem
steps n k f = steps_in n k (option_and_then elements f)

-- ---- operations

abbrev pub kind_of : List ℕ → Option Kind
kind_of bytes =
    if pointwise nat_eq bytes (codes "invoke") then Some kind.Invoke else
    if pointwise nat_eq bytes (codes "ok") then Some kind.Ok else
    if pointwise nat_eq bytes (codes "fail") then Some kind.Fail else
    if pointwise nat_eq bytes (codes "info") then Some kind.Info else None

-- `:type`
abbrev pub kind_in : TextForm → Option Form → Option Kind
kind_in n f = option_and_then kind_of (option_and_then (word n) f)

-- `:process`, if it is a number and `:f` is `:txn`: else the operation is no transaction's
abbrev pub process_in : TextForm → Option Form → Option Form → Option ℤ
process_in n f process =
    if option_map_or (is_word n (codes "txn")) f false then option_and_then (process_number n) process else None

abbrev pub index_of : ℕ → Option ℤ → ℕ
index_of place None = place
index_of place (Some (pos k)) = k
index_of place (Some (negsuc k)) = place

-- `:index`, if it is an integer from 0 up, else the place among the operations of the text
abbrev pub index_in : ℕ → Option Form → ℕ
index_in place f = index_of place (option_and_then integer_in f)

-- the operation of this process that a map with these entries is
abbrev pub operation : TextForm → ℕ → Pairs → ℤ → Result (Option Said) Problem
operation n place ps process = and_then (λ k. and_then
    (λ ss. Ok (Some (record {
      kind = k;
      label = record { index = index_in place (field n (codes "index") ps); process = process };
      steps = ss;
    }))) (steps n k (field n (codes "value") ps)))
    (ok_or (kind_in n (field n (codes "type") ps)) problem.Type)

abbrev pub of_process : TextForm → ℕ → Pairs → Option ℤ → Result (Option Said) Problem
of_process n place ps None = Ok None
of_process n place ps (Some process) = operation n place ps process

-- the form is a map whose `:f` is `:txn`
abbrev pub is_of_txn : TextForm → Form → Bool
is_of_txn n f = option_map_or (λ ps. option_map_or (is_word n (codes "txn")) (field n (codes "f") ps) false) (entries_in f) false

-- what the form at this place of a text says; nothing, if it is an operation of no transaction
abbrev pub said : TextForm → ℕ → Form → Result (Option Said) Problem
said n place f = and_then (λ ps. of_process n place ps (process_in n (field n (codes "f") ps) (field n (codes "process") ps)))
    (ok_or (entries_in f) problem.Map)
