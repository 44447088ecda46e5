-- What an answer rests on: how many transactions a history has of each outcome, and what the committed ones read.
use Rattle.std.specs.Prelude.{◌≡◌, ℕ, Bool, true, false, List, length, if◌then◌else◌}
use Rattle.std.specs.List.{count_by, sum_by}
use Rattle.append_values.specs.declared.transaction.Outcome.{Outcome}
use Rattle.append_values.specs.declared.transaction.Outcome.TheVariants.{Committed, Aborted, Unknown}
use Rattle.append_values.specs.declared.transaction.Operation.{Operation}
use Rattle.append_values.specs.declared.transaction.Operation.TheVariants.{Append, Read, LostRead}
use Rattle.append_values.specs.declared.transaction.Transaction.{Transaction}
use Rattle.append_text.specs.declared.history.History.{History}
use Rattle.append_text.specs.Meaning.Texts.{counted}
use Rattle.lists_cli.specs.declared.basis.Basis.{Basis}

abbrev pub is_same : Outcome → Outcome → Bool
is_same Committed Committed = true
is_same Aborted Aborted = true
is_same Unknown Unknown = true
is_same _ _ = false

abbrev pub has_outcome : Outcome → Transaction → Bool
has_outcome o t = is_same o t.outcome

abbrev pub reads_of : Operation → ℕ
reads_of (Append key element) = 0
reads_of (Read key elements) = 1
reads_of (LostRead key) = 0

-- how many elements it returned
abbrev pub elements_of : Operation → ℕ
elements_of (Append key element) = 0
elements_of (Read key elements) = length elements.items
elements_of (LostRead key) = 0

abbrev pub if_committed : (Operation → ℕ) → Transaction → ℕ
if_committed f t = if has_outcome Committed t then sum_by f t.operations.items else 0

-- the sum over the operations of all committed transactions, as far as 64 bits can count
abbrev pub of_committed : (Operation → ℕ) → List Transaction → ℕ
of_committed f ts = counted (sum_by (if_committed f) ts)

pub record RestsOn (h : History) (b : Basis) : Type 0 where
  pub ok : b.ok ≡ count_by (has_outcome Committed) h.transactions.items
  pub info : b.info ≡ count_by (has_outcome Unknown) h.transactions.items
  pub fail : b.fail ≡ count_by (has_outcome Aborted) h.transactions.items
  pub reads : b.reads ≡ of_committed reads_of h.transactions.items
  pub elements : b.elements ≡ of_committed elements_of h.transactions.items
  pub passed_over : b.passed_over ≡ h.passed_over
