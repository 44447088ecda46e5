-- What a pairing holds of the operations that it took.
use Rattle.std.specs.Prelude.{◌≡◌, ℕ, ℤ, suc, Bool, true, false, List, [], ◌∷◌, map, Option, Some, None, option_map, is_none, slice_get, slice_set, if◌then◌else◌}
use Rattle.std.specs.List.{find}
use Rattle.std.specs.Ordering.{int_cmp}
use Rattle.std.specs.BTreeMap.{get}
use Rattle.append_values.specs.Meaning.Histories.{Transaction, operation_of, transaction_of}
use Rattle.append_text.specs.declared.operation.Kind.{Kind}
use Rattle.append_text.specs.declared.operation.Op.{Op as OpValue}
use Rattle.append_text.specs.declared.pairing.Pairing.{Pairing}
use Rattle.append_text.specs.declared.pairing.Style.{Style}
use Rattle.append_text.specs.declared.pairing.Style.TheVariants.{Undecided, Invoked, Completed}
use Rattle.append_text.specs.Meaning.Steps.{ended}
use Rattle.append_text.specs.Meaning.Pairing.{Op, MayEnd, is_invoke, is_invocation, is_of, transactions}

abbrev pub op_of : OpValue → Op
op_of o = record { kind = o.kind; label = o.label; steps = map operation_of o.steps.items }

-- the place of the transaction that the process has invoked and not completed
abbrev pub open_at : ℤ → List Op → Option ℕ
open_at process [] = None
open_at process (o ∷ ops) =
    if is_invocation o then
    (if is_of process o then (if is_none (find (is_of process) ops) then Some 0 else option_map suc (open_at process ops))
    else option_map suc (open_at process ops))
    else open_at process ops

-- the style of a text whose first operation is of this kind
abbrev pub style_by : Kind → Style
style_by k = if is_invoke k then Invoked else Completed

abbrev pub style_or_by : Style → Kind → Style
style_or_by Undecided k = style_by k
style_or_by s k = s

abbrev pub style_at : List Op → Style
style_at [] = Undecided
style_at (o ∷ ops) = style_by o.kind

-- whether operations of the style stand for their transactions alone
abbrev pub is_alone : Style → Bool
is_alone Completed = true
is_alone _ = false

-- the pairing took these operations
pub record HasTaken (p : Pairing) (ops : List Op) : Type 0 where
  pub style_is : p.style ≡ style_at ops
  pub transactions_are : map transaction_of p.transactions.items ≡ map (λ f. f.transaction) (transactions ops)
  pub labels_are : p.labels.items ≡ map (λ f. f.label) (transactions ops)
  pub waits : is_alone p.style ≡ false → (process : ℤ) → get int_cmp p.waiting process ≡ open_at process ops

-- this transaction waits for a completion by the process
pub record Waits (p : Pairing) (process : ℤ) (t : Transaction) : Type 0 where
  pub place : ℕ
  pub at : get int_cmp p.waiting process ≡ Some place
  pub is : slice_get (map transaction_of p.transactions.items) place ≡ Some t

-- the operation ends the transaction that waits for it
pub record Ends (old new : Pairing) (o : Op) : Type 0 where
  pub transaction : Transaction
  pub waits : Waits old o.label.process transaction
  pub may : MayEnd o.kind transaction.operations o.steps
  pub transactions : map transaction_of new.transactions.items
      ≡ slice_set (map transaction_of old.transactions.items) waits.place (ended o.kind transaction o.steps)
  pub labels : new.labels.items ≡ slice_set old.labels.items waits.place o.label

-- no transaction that waits for the operation may end so
abbrev pub MayNotEnd : Pairing → Op → Type 0
MayNotEnd p o = (t : Transaction) → Waits p o.label.process t → MayEnd o.kind t.operations o.steps → ⊥
