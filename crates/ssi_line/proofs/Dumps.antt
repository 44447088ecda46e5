-- The text of a dump.
use Rattle.std.proofs.Common.{◌≡◌, ℕ, List, ◌++◌, Option, Result, Ok, Err, ap, subst, ◌∙◌}
use Rattle.std.specs.Prelude.{IfOk}
use Rattle.adya_values.specs.Meaning.Histories.{History}
use Rattle.adya_values.specs.Clauses.Acceptance.{IsAccepted}
use Rattle.devices.specs.declared.watched.Watched.{Watched}
use Rattle.adya_text.specs.Meaning.Texts.{history_text, serial_text}
use Rattle.ssi_store.specs.Meaning.Courses.{Course}
use Rattle.ssi_line.specs.Meaning.Steps.{Dumped, MayFollow}
use Rattle.ssi_line.specs.Clauses.Answers.{Said}
use Rattle.ssi_line.specs.Clauses.Dumps.{IsDumpText}

-- both texts were put together
pub dump_told : {T E : Type 0} (r : Result T E) (bytes : T → List ℕ) (is_at : Course → Type 0) (shown history : History)
    (serial : List ℕ) → IfOk r (λ t. bytes t ≡ history_text shown ++ serial_text serial) → shown ≡ history
    → IsAccepted history serial → ((course : Course) → is_at course → MayFollow course (Dumped history serial))
    → IfOk r (λ t. IsDumpText is_at (bytes t))
dump_told (Ok t) bytes is_at shown history serial told same accepted follows = record {
  history = history;
  serial = serial;
  is = told ∙ ap (λ (h : History). history_text h ++ serial_text serial) same;
  accepted = accepted;
  follows = follows;
}
dump_told (Err e) bytes is_at shown history serial told same accepted follows = tt

-- the same bytes were written, or a front of them
pub said_same : {D T E : Type 0} (contents : D → Option (List ℕ)) (old new : Watched D) (r : Result T E)
    (xs ys : List ℕ) → xs ≡ ys → Said contents old new xs r → Said contents old new ys r
said_same contents old new r xs ys same said = subst (λ (l : List ℕ). Said contents old new l r) same said
