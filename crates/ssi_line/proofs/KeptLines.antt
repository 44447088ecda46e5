-- What is kept of a line.
use Rattle.std.proofs.Common.{◌≡◌, ℕ, List, Bool, true, false, cond, Option, Some, None, refl, sym, ap, length, ◌≤◌, ◌∙◌}
use Rattle.std.specs.Prelude.{nat_le}
use Rattle.std.specs.Option.{option_and_then}
use Rattle.std.proofs.lemmas.Option.{same_Some, none-some}
use Rattle.std.proofs.lemmas.Bool.{leb-true}
use Rattle.ssi_line.specs.Clauses.Answers.{kept}

kept_by : (fits : Bool) (text line : List ℕ) → Some line ≡ cond fits (Some text) None → (line ≡ text) × (fits ≡ true)
kept_by true text line e = (same_Some line text e, refl)
kept_by false text line e = absurd (none-some line (sym e))

-- the room holds a line: it is that line, and short
pub of_kept : (text line : List ℕ) (room : Option (List ℕ)) → room ≡ Some line → room ≡ kept text
    → (line ≡ text) × (length text ≤ 4096)
of_kept text line room holds is =
    let both = kept_by (nat_le (length text) 4096) text line (sym holds ∙ is) in
    (both.0, leb-true (length text) 4096 both.1)

-- a line that is kept is short, so it is kept again
pub kept_again : (text : List ℕ) (room : Option (List ℕ)) → room ≡ kept text → option_and_then kept room ≡ kept text
kept_again text room is = ap (λ (o : Option (List ℕ)). option_and_then kept o) is ∙ by_room (nat_le (length text) 4096) refl
  where
    by_room : (fits : Bool) → nat_le (length text) 4096 ≡ fits
        → option_and_then kept (cond fits (Some text) None) ≡ cond fits (Some text) None
    by_room true is_short = ap (λ b. cond b (Some text) None) is_short
    by_room false is_long = refl
