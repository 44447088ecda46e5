-- What an answer says of a text, and what is written.
use Rattle.std.specs.Prelude.{◌≡◌, ℕ, Bool, true, false, List, [], ◌∷◌, ◌++◌, decimal, flat_map, Option, Some, None, slice_get}
use Rattle.std.specs.Bool.{MatchBool}
use Rattle.std.specs.List.{list_any}
use Rattle.devices.specs.declared.watched.Watched.{Watched}
use Rattle.devices.specs.Clauses.Writing.{Grew}
use Rattle.append_values.specs.Meaning.Histories.{History}
use Rattle.append_values.specs.Meaning.Runs.{Explains}
use Rattle.append_values.specs.Meaning.Reasons.{HasNoOrder}
use Rattle.append_check.specs.declared.verdict.Verdict.TheVariants.{AppendedTwice}
use Rattle.append_check.specs.Meaning.Verdicts.{history_of, IsRight}
use Rattle.append_text.specs.declared.history.History.{History as Said}
use Rattle.append_text.specs.declared.history.Label.{Label}
use Rattle.append_text.specs.declared.text_form.TextForm.{TextForm}
use Rattle.append_text.specs.Meaning.Notations.{notation_in}
use Rattle.append_text.specs.Meaning.JsonTexts.{IsHistoryIn}
use Rattle.lists_verdicts.specs.declared.answer.Answer.{Answer}
use Rattle.lists_verdicts.specs.declared.answer.Answer.TheVariants as It
use Rattle.lists_verdicts.specs.Meaning.Status.{tells, words_of}
use Rattle.lists_cli.specs.declared.basis.Basis.{Basis}
use Rattle.lists_cli.specs.declared.run.Shape.{Shape}
use Rattle.lists_cli.specs.declared.run.Shape.TheVariants.{Words}
use Rattle.lists_cli.specs.Meaning.Rests.{RestsOn}

-- the notation that was asked for, else the one that the text tells
abbrev pub notation_for : Option TextForm → List ℕ → TextForm
notation_for None text = notation_in text
notation_for (Some n) text = n

-- the transactions of a history that was read
abbrev pub history_in : Said → History
history_in h = history_of h.transactions.items

-- some element is appended more than once to one list, by transactions that may have committed
abbrev pub HasRepeat : History → Type 0
HasRepeat h = (key : ℕ) × (element : ℕ) × IsRight h (AppendedTwice key element)

-- what an answer says of a history, and of the order that is written with a yes
abbrev pub Means : Answer → List ℕ → Said → Type 0
Means It.Serializable order h = Explains order (history_in h) × (list_any tells h.transactions.items ≡ true)
Means It.NotSerializable order h = HasNoOrder (history_in h)
Means It.NothingToCheck order h = list_any tells h.transactions.items ≡ false
Means It.AppendedTwice order h = HasRepeat (history_in h)

abbrev pub is_yes : Answer → Bool
is_yes It.Serializable = true
is_yes It.NotSerializable = false
is_yes It.NothingToCheck = false
is_yes It.AppendedTwice = false

-- the index of a transaction, on a line
abbrev pub label_line : Option Label → List ℕ
label_line None = []
label_line (Some l) = decimal l.index ++ 10 ∷ []

abbrev pub order_line : List Label → ℕ → List ℕ
order_line labels place = label_line (slice_get labels place)

abbrev pub order_text : List Label → List ℕ → List ℕ
order_text labels order = flat_map (order_line labels) order

-- with a yes its order is written, else nothing is
abbrev pub HasOrder : {O : Type 0} → (O → Option (List ℕ)) → Answer → List Label → List ℕ → Watched O → Watched O → Type 0
HasOrder contents a labels order old new = MatchBool (is_yes a) (Grew contents old new (order_text labels order)) (new ≡ old)

-- an answer in words begins with those of its kind
pub record IsWritten {W : Type 0} (contents : W → Option (List ℕ)) (a : Answer) (old new : Watched W) : Type 0 where
  pub rest : List ℕ
  pub written : Grew contents old new (words_of a ++ rest)

-- the text in this notation says a history, of which the answer is right, and on which it rests
pub record IsAnswer {O W : Type 0} (of_order : O → Option (List ℕ)) (contents : W → Option (List ℕ)) (shape : Shape) (n : TextForm)
    (text : List ℕ) (a : Answer) (b : Basis) (old_order new_order : Watched O) (old new : Watched W) : Type 0 where
  pub history : Said
  pub says : IsHistoryIn n text history
  pub order : List ℕ
  pub means : Means a order history
  pub has_order : HasOrder of_order a history.labels.items order old_order new_order
  pub written : shape ≡ Words → IsWritten contents a old new
  pub rests_on : RestsOn history b
