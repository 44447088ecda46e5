-- The entries of a map in EDN, by its forms.
use Rattle.std.specs.Prelude.{◌≡◌, ℕ, true, false, List}
use Rattle.std.specs.List.{list_all}
use Rattle.edn.specs.Meaning.Forms.{Form}
use Rattle.edn.specs.Meaning.Keys.{key_in}
use Rattle.edn.specs.Meaning.Names.{is_no_slash}
use Rattle.edn.specs.Meaning.Tapes.{paired, paired_within}
use Rattle.append_text.specs.declared.edn_data.Keys.{Keys}
use Rattle.append_text.specs.declared.edn_data.Keys.TheVariants.{Written, Within}
use Rattle.append_text.specs.declared.text_form.TextForm.TheVariants.{Edn}
use Rattle.append_text.specs.Meaning.Data.{is_word}

-- the forms before the first key
abbrev pub extra : Keys → ℕ
extra Written = 0
extra Within = 1

abbrev pub entries_of : Keys → List Form → List (Form × Form)
entries_of Written fs = paired fs
entries_of Within fs = paired_within fs

-- the key, if this is the namespace of the map
abbrev pub key_of : Keys → List ℕ → Form → Form
key_of Written namespace key = key
key_of Within namespace key = key_in namespace key

-- the form is no word without a slash
abbrev pub IsNoWord : Form → Type 0
IsNoWord f = (bytes : List ℕ) → list_all is_no_slash bytes ≡ true → is_word Edn bytes f ≡ false
