-- What holds of the first lines of every segment.
use Rattle.std.specs.Prelude.{ℕ, ◌≢◌, ◌<◌, ◌^◌, List}
use Rattle.std.specs.List.{All, AllByRecursion}
use Rattle.adya_values.specs.Meaning.Histories.{FinalPair}
use Rattle.adya_line.specs.Meaning.Limits.{IsFinal}
use Rattle.adya_line.specs.Meaning.Lines.{IsPlain}
use Rattle.adya_text.specs.Meaning.Texts.{with_ends}
use Rattle.ssi_loads.specs.Meaning.Loaded.{AreContents, AreLoaded}
use Rattle.ssi_loads.specs.Meaning.Loads.{first_lines}

-- they load their rows
abbrev pub FirstLinesLoad : Type 0
FirstLinesLoad = (n : ℕ) (rows : List FinalPair) → AreContents rows → AreLoaded n rows (first_lines n rows)

-- none of them has a line feed
abbrev pub FirstLinesArePlain : Type 0
FirstLinesArePlain = (n : ℕ) (rows : List FinalPair) → n < 2 ^ 32 → AllByRecursion IsFinal rows → All IsPlain (first_lines n rows)

-- no zero stands in their text
abbrev pub FirstLinesAreClean : Type 0
FirstLinesAreClean = (n : ℕ) (rows : List FinalPair) → n < 2 ^ 32 → AllByRecursion IsFinal rows
    → All (λ b. b ≢ 0) (with_ends (first_lines n rows))
