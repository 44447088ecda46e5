-- What a verdict means for the answer that is given.
use Rattle.std.proofs.Common.{◌≡◌, ℕ, Bool, true, false, List, refl}
use Rattle.std.specs.Prelude.{if◌then◌else◌}
use Rattle.std.specs.List.{list_any}
use Rattle.append_values.specs.Meaning.Runs.{Explains}
use Rattle.append_check.specs.declared.verdict.Verdict.{Verdict}
use Rattle.append_check.specs.declared.verdict.Verdict.TheVariants.{Serializable, NotSerializable, AppendedTwice}
use Rattle.append_check.specs.Meaning.Verdicts.{IsRight}
use Rattle.append_text.specs.declared.history.History.{History as Said}
use Rattle.lists_verdicts.specs.declared.answer.Answer.TheVariants as It
use Rattle.lists_verdicts.specs.Meaning.Status.{answer_of, tells}
use Rattle.lists_cli.specs.Meaning.Answers.{Means, history_in}
use Rattle.lists_cli.specs.Clauses.Faults.{order_in}

yes : (h : Said) (order : List ℕ) → Explains order (history_in h) → (b : Bool) → list_any tells h.transactions.items ≡ b
    → Means (if b then It.Serializable else It.NothingToCheck) order h
yes h order explains true e = (explains, e)
yes h order explains false e = e

pub means : (h : Said) (v : Verdict) → IsRight (history_in h) v → Means (answer_of h.transactions.items v) (order_in v) h
means h (Serializable order) right = yes h order.items right (list_any tells h.transactions.items) refl
means h (NotSerializable reason) right = right.1
means h (AppendedTwice key element) right = (key, element, right)
