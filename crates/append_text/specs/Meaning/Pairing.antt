-- Which transactions the operations of a text are, and which operation may come next.
use Rattle.std.specs.Prelude.{◌≡◌, ℤ, Bool, true, false, List, [], ◌∷◌, map, Option, Some, None, IfSome, if◌then◌else◌}
use Rattle.std.specs.List.{find}
use Rattle.std.specs.Option.{IsSomeAnd, option_or}
use Rattle.std.specs.Bool.{MatchBool}
use Rattle.std.specs.Ordering.{int_eq}
use Rattle.append_values.specs.declared.transaction.Outcome.TheVariants.{Unknown}
use Rattle.append_values.specs.Meaning.Histories.{Operation, Transaction}
use Rattle.append_text.specs.declared.history.Label.{Label}
use Rattle.append_text.specs.declared.operation.Kind.{Kind}
use Rattle.append_text.specs.declared.operation.Kind.TheVariants as kind
use Rattle.append_text.specs.Meaning.Steps.{outcome_of, without_result, told, ended}

-- an operation of a text, with its steps
pub record Op : Type 0 where
  pub kind : Kind
  pub label : Label
  pub steps : List Operation

-- a transaction, and where it comes from
pub record Found : Type 0 where
  pub label : Label
  pub transaction : Transaction

abbrev pub is_invoke : Kind → Bool
is_invoke kind.Invoke = true
is_invoke _ = false

abbrev pub is_invocation : Op → Bool
is_invocation o = is_invoke o.kind

-- the operation is one of the process
abbrev pub is_of : ℤ → Op → Bool
is_of process o = int_eq process o.label.process

-- an invoked transaction, as the operation that completes it tells of it, if there is one
abbrev pub found : Op → Option Op → Found
found o None = record { label = o.label; transaction = told Unknown o.steps }
found o (Some last) = record { label = last.label; transaction = ended last.kind (told Unknown o.steps) last.steps }

-- each invocation is a transaction; the next operation of its process completes it
abbrev pub invoked : List Op → List Found
invoked [] = []
invoked (o ∷ ops) = if is_invocation o then found o (find (is_of o.label.process) ops) ∷ invoked ops else invoked ops

-- a completion that stands for its transaction alone
abbrev pub alone : Op → Found
alone o = record { label = o.label; transaction = told (outcome_of o.kind) o.steps }

-- the transactions of the operations: if the first of these is an invocation, each transaction is invoked, else none is
abbrev pub transactions : List Op → List Found
transactions [] = []
transactions (o ∷ ops) = if is_invocation o then invoked (o ∷ ops) else map alone (o ∷ ops)

-- the last operation of the process
abbrev pub last_of : ℤ → List Op → Option Op
last_of process [] = None
last_of process (o ∷ ops) = option_or (last_of process ops) (if is_of process o then Some o else None)

-- the same steps but for what reads got
abbrev pub AreSame : List Operation → List Operation → Type 0
AreSame some others = map without_result some ≡ map without_result others

-- an operation of this kind with these steps may complete an invocation with those: only a commit tells its steps
abbrev pub MayEnd : Kind → List Operation → List Operation → Type 0
MayEnd kind.Ok invoked steps = AreSame invoked steps
MayEnd _ invoked steps = Unit {0}

-- of texts with invocations: a process invokes if it waits for no completion, and completes what it has invoked last
abbrev pub MayPair : List Op → Op → Type 0
MayPair ops o = MatchBool (is_invocation o)
    (IfSome (last_of o.label.process ops) (λ l. is_invocation l ≡ false))
    (IsSomeAnd (last_of o.label.process ops) (λ l. (is_invocation l ≡ true) × MayEnd o.kind l.steps o.steps))

-- the operation may come after these
abbrev pub MayFollow : List Op → Op → Type 0
MayFollow [] o = Unit {0}
MayFollow (first ∷ ops) o = MatchBool (is_invocation first) (MayPair (first ∷ ops) o) (is_invocation o ≡ false)
