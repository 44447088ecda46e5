-- What holds of the lines of each kind.
use Rattle.std.specs.Prelude.{◌≡◌, ◌↔◌, Option, Some}
use Rattle.adya_keys.specs.Meaning.Keys.{Bytes}
use Rattle.adya_line.specs.Meaning.Lines.{IsPlain}

-- reading gives x exactly if x is within its limits and the line is its text
abbrev pub IsReaderOf : {X : Type 0} → (Bytes → Option X) → (X → Type 0) → (X → Bytes) → Type 0
IsReaderOf {X} read Is text = (line : Bytes) (x : X) → (read line ≡ Some x) ↔ (Is x × (line ≡ text x))

-- different values have different texts
abbrev pub IsOneText : {X : Type 0} → (X → Type 0) → (X → Bytes) → Type 0
IsOneText {X} Is text = (x y : X) → Is x → Is y → text x ≡ text y → x ≡ y

-- no text of the kind has a line feed
abbrev pub HasPlainTexts : {X : Type 0} → (X → Type 0) → (X → Bytes) → Type 0
HasPlainTexts {X} Is text = (x : X) → Is x → IsPlain (text x)
