-- What a buffer has read of a text, and not yet handed over.
use Rattle.std.specs.Prelude.{◌≡◌, ◌≢◌, ℕ, Bool, true, false, List, [], ◌∷◌, ◌++◌, Option, Some, All, slice_range}
use Rattle.std.specs.Io.KnownBytes.{prepend_known}
use Rattle.devices.specs.Clauses.Lines.{line_end}
use Rattle.append_text.specs.declared.buffer.Buffer.{Buffer}
use Rattle.append_text.specs.Meaning.Lines.{lines}

abbrev pub pending_in : Buffer → List ℕ
pending_in b = slice_range b.bytes b.start b.end

-- the text goes on so: with what the buffer holds, and then with what its source has left
abbrev pub HasLeft : Buffer → Option (List ℕ) → List ℕ → Type 0
HasLeft b left text = prepend_known (pending_in b) left ≡ Some text

-- the bytes have no line feed
abbrev pub IsPlain : List ℕ → Type 0
IsPlain bytes = All (λ b. b ≢ 10) bytes

-- of the pending bytes these were added to the line: all up to a line feed, which is dropped, or all if there is none
abbrev pub AddsFront : Bool → List ℕ → List ℕ → List ℕ → List ℕ → Type 0
AddsFront ended old new before after =
    (front : List ℕ) × (after ≡ before ++ front) × (old ≡ front ++ line_end ended ++ new) × IsPlain front

-- the text begins with this line, and goes on so behind it; or it has no line
abbrev pub TakesLine : Bool → List ℕ → List ℕ → List ℕ → Type 0
TakesLine true text line rest = lines text ≡ line ∷ lines rest
TakesLine false text line rest = lines text ≡ []
