-- What an operation of a text says of its transaction.
use Rattle.std.specs.Prelude.{Bool, false, ◌&&◌, ◌==◌, List, map}
use Rattle.append_values.specs.declared.transaction.Outcome.{Outcome}
use Rattle.append_values.specs.declared.transaction.Outcome.TheVariants.{Committed, Aborted, Unknown}
use Rattle.append_values.specs.Meaning.Histories.{Operation, Append, Read, LostRead, Transaction}
use Rattle.append_text.specs.declared.operation.Kind.{Kind}
use Rattle.append_text.specs.declared.operation.Kind.TheVariants as kind

-- how the transaction ended after the operation
abbrev pub outcome_of : Kind → Outcome
outcome_of kind.Invoke = Unknown
outcome_of kind.Ok = Committed
outcome_of kind.Fail = Aborted
outcome_of kind.Info = Unknown

-- the step, with nothing known of what a read got
abbrev pub without_result : Operation → Operation
without_result (Append k x) = Append k x
without_result (Read k xs) = LostRead k
without_result (LostRead k) = LostRead k

-- what its client knows of the steps of a transaction that ended so
abbrev pub known_steps : Outcome → List Operation → List Operation
known_steps Committed steps = steps
known_steps Aborted steps = map without_result steps
known_steps Unknown steps = map without_result steps

-- what its client knows of the transaction
abbrev pub told : Outcome → List Operation → Transaction
told outcome steps = record { outcome = outcome; operations = known_steps outcome steps }

-- an invoked transaction, and what the operation that completes it says: only an `:ok` tells what its reads got
abbrev pub ended : Kind → Transaction → List Operation → Transaction
ended kind.Ok t steps = record { outcome = Committed; operations = steps }
ended kind.Invoke t steps = record t { outcome = outcome_of kind.Invoke }
ended kind.Fail t steps = record t { outcome = outcome_of kind.Fail }
ended kind.Info t steps = record t { outcome = outcome_of kind.Info }

-- the same append, or reads of the same key
abbrev pub is_same : Operation → Operation → Bool
is_same (Append k x) (Append l y) = (k == l) && (x == y)
is_same (Read k xs) (Read l ys) = k == l
is_same (Read k xs) (LostRead l) = k == l
is_same (LostRead k) (Read l ys) = k == l
is_same (LostRead k) (LostRead l) = k == l
is_same _ _ = false
