-- What a segment's file is called.
use Rattle.std.specs.Prelude.{ℕ, zero, suc, ◌+◌, ◌/◌, ◌%◌, ◌<◌, List, [], ◌∷◌, ◌++◌, codes}
use Rattle.ssi_files.specs.declared.name.Ending.{Ending}
use Rattle.ssi_files.specs.declared.name.Ending.TheVariants.{Log, New}

-- segments are numbered from 1, and a number has at most eight digits
abbrev pub IsNumber : ℕ → Type 0
IsNumber n = (0 < n) × (n < 100_000_000)

-- the last so many decimal digits of a number, the highest first, with zeros before them
abbrev pub digits_of : ℕ → ℕ → List ℕ
digits_of zero n = []
digits_of (suc k) n = digits_of k (n / 10) ++ (48 + n % 10) ∷ []

abbrev pub ending_text : Ending → List ℕ
ending_text Log = codes ".log"
ending_text New = codes ".new"

abbrev pub file_name : ℕ → Ending → List ℕ
file_name n ending = digits_of 8 n ++ ending_text ending
