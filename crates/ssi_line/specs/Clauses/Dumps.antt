-- The text of a dump.
use Rattle.std.specs.Prelude.{◌≡◌, ◌++◌, ℕ, List}
use Rattle.adya_values.specs.Meaning.Histories.{History}
use Rattle.adya_values.specs.Clauses.Acceptance.{IsAccepted}
use Rattle.adya_text.specs.Meaning.Texts.{history_text, serial_text}
use Rattle.ssi_store.specs.Meaning.Courses.{Course}
use Rattle.ssi_line.specs.Meaning.Steps.{Dumped, MayFollow}

-- the text is that of a history and of a certificate that it is accepted with; the history is that of each of these courses
-- so far
pub record IsDumpText (is_at : Course → Type 0) (text : List ℕ) : Type 0 where
  pub history : History
  pub serial : List ℕ
  pub is : text ≡ history_text history ++ serial_text serial
  pub accepted : IsAccepted history serial
  pub follows : (course : Course) → is_at course → MayFollow course (Dumped history serial)
