-- What holds of texts.
use Rattle.std.specs.Prelude.{◌≡◌, ◌≢◌, ℕ, List, [], ◌∷◌, ◌++◌, All}
use Rattle.adya_keys.specs.Meaning.Keys.{Bytes}
use Rattle.adya_line.specs.Meaning.Spelling.{tail}
use Rattle.adya_line.specs.Meaning.Lines.{IsPlain}
use Rattle.adya_values.specs.Meaning.Histories.{Txns, History}
use Rattle.adya_text.specs.Meaning.Texts.{IsHistory, IsSerial, with_ends, history_text, serial_text}
use Rattle.adya_text.specs.Clauses.Faults.{IsCut, IsFaultLine}
use Rattle.adya_text.specs.Clauses.Streams.{history_part, serial_part}

-- histories of one text are one history
abbrev pub HistoriesDiffer : Type 0
HistoriesDiffer = (g h : History) → IsHistory g → IsHistory h → history_text g ≡ history_text h → g ≡ h

-- a history text that begins with another is that other
abbrev pub NoHistoryBegins : Type 0
NoHistoryBegins =
    (g h : History) → IsHistory g → IsHistory h → (more : Bytes) → history_text h ≡ history_text g ++ more
    → more ≡ []

-- certificates of one text are one certificate
abbrev pub SerialsDiffer : Type 0
SerialsDiffer = (ts us : Txns) → IsSerial ts → IsSerial us → serial_text ts ≡ serial_text us → ts ≡ us

-- a certificate text that begins with another is that other
abbrev pub NoSerialBegins : Type 0
NoSerialBegins =
    (ts us : Txns) → IsSerial ts → IsSerial us → (more : Bytes) → serial_text us ≡ serial_text ts ++ more
    → more ≡ []

-- a text has one fault line at most
abbrev pub HasOneFaultLine : (List Bytes → Type 0) → Type 0
HasOneFaultLine grammar =
    (text : Bytes) (j k : ℕ) → IsFaultLine grammar text j → IsFaultLine grammar text k → j ≡ k

-- the text of lines of the grammar has no fault line
abbrev pub HasNoFaultWithin : (List Bytes → Type 0) → Type 0
HasNoFaultWithin grammar =
    (lines : List Bytes) (k : ℕ) → grammar lines → IsFaultLine grammar (with_ends lines) k → ⊥

-- none of the lines is `end`
abbrev pub HasNoEnd : List Bytes → Type 0
HasNoEnd lines = All (λ l. l ≢ tail) lines

-- a stream is cut after its first line `end`
abbrev pub IsCutAfterEnd : Type 0
IsCutAfterEnd =
    (before : List Bytes) (rest : Bytes) → All IsPlain before → HasNoEnd before
    → (history_part (with_ends (before ++ tail ∷ []) ++ rest) ≡ with_ends (before ++ tail ∷ []))
    × (serial_part (with_ends (before ++ tail ∷ []) ++ rest) ≡ rest)

-- a stream without such a line is the history's as a whole
abbrev pub IsWholeWithoutEnd : Type 0
IsWholeWithoutEnd =
    (stream : Bytes) (lines : List Bytes) (rest : Bytes) → HasNoEnd lines → IsCut stream lines rest
    → (history_part stream ≡ stream) × (serial_part stream ≡ [])
