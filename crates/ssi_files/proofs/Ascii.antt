-- A name has ASCII characters alone.
use Rattle.std.proofs.Common.{ℕ, zero, suc, ◌+◌, ◌/◌, ◌%◌, ◌<◌, [], ◌∷◌, arith, lit<}
use Rattle.std.specs.Str.{IsAscii, IsUtf8}
use Rattle.std.proofs.lemmas.Str.{IsAscii-append, IsUtf8-from_ascii}
use Rattle.std.proofs.lemmas.Str.Ascii.{IsAscii-nil, IsAscii-cons}
use Rattle.ssi_files.specs.declared.name.Ending.{Ending}
use Rattle.ssi_files.specs.declared.name.Ending.TheVariants.{Log, New}
use Rattle.ssi_files.specs.Meaning.Names.{digits_of, ending_text, file_name}

digits_ascii : (k n : ℕ) → IsAscii (digits_of k n)
digits_ascii zero n = IsAscii-nil
digits_ascii (suc k) n = IsAscii-append (digits_of k (n / 10)) ((48 + n % 10) ∷ []) (digits_ascii k (n / 10)) (IsAscii-cons (48 + n % 10) [] (omega arith) IsAscii-nil)

four : (a b c d : ℕ) → a < 128 → b < 128 → c < 128 → d < 128 → IsAscii (a ∷ b ∷ c ∷ d ∷ [])
four a b c d la lb lc ld = IsAscii-cons a (b ∷ c ∷ d ∷ []) la (IsAscii-cons b (c ∷ d ∷ []) lb (IsAscii-cons c (d ∷ []) lc (IsAscii-cons d [] ld IsAscii-nil)))

ending_ascii : (ending : Ending) → IsAscii (ending_text ending)
ending_ascii Log = four 46 108 111 103 (lit< tt) (lit< tt) (lit< tt) (lit< tt)
ending_ascii New = four 46 110 101 119 (lit< tt) (lit< tt) (lit< tt) (lit< tt)

pub name_is_text : (n : ℕ) (ending : Ending) → IsUtf8 (file_name n ending)
name_is_text n ending =
    IsUtf8-from_ascii (file_name n ending) (IsAscii-append (digits_of 8 n) (ending_text ending) (digits_ascii 8 n) (ending_ascii ending))
