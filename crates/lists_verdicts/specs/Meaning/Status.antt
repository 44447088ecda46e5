-- What the program answers, and the exit statuses.
use Rattle.std.specs.Prelude.{ℕ, Bool, true, false, ◌&&◌, List, [], ◌∷◌, codes, if◌then◌else◌}
use Rattle.std.specs.List.{list_any}
use Rattle.append_values.specs.declared.transaction.Outcome.{Outcome}
use Rattle.append_values.specs.declared.transaction.Outcome.TheVariants.{Committed, Aborted, Unknown}
use Rattle.append_values.specs.declared.transaction.Operation.{Operation}
use Rattle.append_values.specs.declared.transaction.Transaction.{Transaction}
use Rattle.append_check.specs.declared.verdict.Verdict.{Verdict}
use Rattle.append_check.specs.declared.verdict.Verdict.TheVariants as For
use Rattle.lists_verdicts.specs.declared.answer.Answer.{Answer}
use Rattle.lists_verdicts.specs.declared.answer.Answer.TheVariants as It
use Rattle.lists_verdicts.specs.declared.status.Status.{Status}
use Rattle.lists_verdicts.specs.declared.status.Status.TheVariants.{Fine, Refused, Wrong, Failed, Nothing, Workload}

abbrev pub is_committed : Outcome → Bool
is_committed Committed = true
is_committed Aborted = false
is_committed Unknown = false

abbrev pub has_step : List Operation → Bool
has_step [] = false
has_step (o ∷ os) = true

-- a committed transaction with a step
abbrev pub tells : Transaction → Bool
tells t = is_committed t.outcome && has_step t.operations.items

-- a yes needs a transaction that it is about
abbrev pub answer_of : List Transaction → Verdict → Answer
answer_of ts (For.Serializable order) = if list_any tells ts then It.Serializable else It.NothingToCheck
answer_of ts (For.NotSerializable reason) = It.NotSerializable
answer_of ts (For.AppendedTwice key element) = It.AppendedTwice

abbrev pub words_of : Answer → List ℕ
words_of It.Serializable = codes "serializable"
words_of It.NotSerializable = codes "not serializable"
words_of It.NothingToCheck = codes "nothing to check"
words_of It.AppendedTwice = codes "appended twice"

abbrev pub status_of : Answer → Status
status_of It.Serializable = Fine
status_of It.NotSerializable = Refused
status_of It.NothingToCheck = Nothing
status_of It.AppendedTwice = Workload

-- the number that the process ends with
abbrev pub code_of : Status → ℕ
code_of Fine = 0
code_of Refused = 1
code_of Wrong = 2
code_of Failed = 3
code_of Nothing = 4
code_of Workload = 5
