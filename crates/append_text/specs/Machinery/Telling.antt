-- What the first bytes of a text decide.
use Rattle.std.specs.Prelude.{◌≡◌, ℕ, Bool, false, List, ◌++◌, Option}
use Rattle.std.specs.Option.{MatchOption}
use Rattle.append_text.specs.declared.text_form.TextForm.{TextForm}
use Rattle.append_text.specs.Meaning.Notations.{after_blanks, begins_with, notation_of}

-- the bytes decide the test, whatever follows; or they don't, and it fails if nothing follows
abbrev pub Decides : (List ℕ → Bool) → List ℕ → Option TextForm → Type 0
Decides test bytes form = MatchOption form (test bytes ≡ false) (λ f. (more : List ℕ) → f ≡ notation_of (test (bytes ++ more)))

-- the first key is a string
abbrev pub begins_key : List ℕ → Bool
begins_key bytes = begins_with 34 (after_blanks bytes)
