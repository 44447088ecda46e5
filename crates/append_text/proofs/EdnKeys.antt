-- The words that keys of a map are.
use Rattle.std.proofs.Common.{◌≡◌, ℕ, ◌&&◌, ◌⊎◌, inl, inr, Bool, true, false, nat_eq, List, [], ◌∷◌, ◌++◌, take, Option, None, Some, refl, sym, ap, subst, ◌∙◌}
use Rattle.std.specs.Prelude.{codes, IfNone}
use Rattle.std.specs.List.{list_all}
use Rattle.std.specs.Cmp.Lexicographic.{pointwise, same_text}
use Rattle.edn.specs.Meaning.Forms.{Form, nil, boolean, integer, number, string, character, keyword, symbol, list, vector, set, entries}
use Rattle.edn.specs.Meaning.Keys.{key_in}
use Rattle.edn.specs.Meaning.Names.{is_bare, is_no_slash, qualified}
use Rattle.append_text.specs.declared.edn_data.Keys.{Keys}
use Rattle.append_text.specs.declared.edn_data.Keys.TheVariants.{Written, Within}
use Rattle.append_text.specs.declared.text_form.TextForm.TheVariants.{Edn}
use Rattle.append_text.specs.Meaning.Data.{word}
use Rattle.append_text.specs.Machinery.EdnMaps.{IsNoWord, key_of}

bool_cases : (b : Bool) → (b ≡ true) ⊎ (b ≡ false)
bool_cases true = inl refl
bool_cases false = inr refl

and_false : (b : Bool) → b && false ≡ false
and_false true = refl
and_false false = refl

-- a name that has a slash is no word without one
slash_so : (name bytes : List ℕ) → list_all is_no_slash name ≡ false → list_all is_no_slash bytes ≡ true → pointwise nat_eq name bytes ≡ false
slash_so name bytes slash none =
    elim (bool_cases (pointwise nat_eq name bytes)) [
      | inl alike ↦ absurd (let differ : false ≡ true = sym slash ∙ ap (list_all is_no_slash) (same_text name bytes (sym alike)) ∙ none in cc)
      | inr other ↦ other
    ]

slash_within : (namespace name : List ℕ) → list_all is_no_slash (namespace ++ 47 ∷ name) ≡ false
slash_within [] name = refl
slash_within (b ∷ bs) name = ap (λ r. is_no_slash b && r) (slash_within bs name) ∙ and_false (is_no_slash b)

not_bare : (name : List ℕ) → is_bare name ≡ false → list_all is_no_slash name ≡ false
not_bare [] slash = absurd (let differ : true ≡ false = slash in cc)
not_bare (b ∷ bs) slash = ap (λ r. is_no_slash b && r) slash ∙ and_false (is_no_slash b)

qualified_slash : (namespace name : List ℕ) → pointwise nat_eq (take 2 name) (codes "_/") ≡ false
    → list_all is_no_slash (qualified namespace name) ≡ false
qualified_slash namespace name other =
    elim (bool_cases (is_bare name)) [
      | inl bare ↦ rw bare (slash_within namespace name)
      | inr slash ↦ rw (slash, other) (not_bare name slash)
    ]

-- a form that is no keyword
pub no_word : (keys : Keys) (namespace : List ℕ) (f : Form) → word Edn f ≡ None → IsNoWord (key_of keys namespace f)
no_word Written namespace f none = λ bytes _. rw none refl
no_word Within namespace nil none = λ bytes _. refl
no_word Within namespace (boolean b) none = λ bytes _. refl
no_word Within namespace (integer z) none = λ bytes _. refl
no_word Within namespace (number text) none = λ bytes _. refl
no_word Within namespace (string text) none = λ bytes _. refl
no_word Within namespace (character name) none = λ bytes _. refl
no_word Within namespace (keyword name) none = absurd (cc)
no_word Within namespace (symbol name) none = λ bytes _. refl
no_word Within namespace (list fs) none = λ bytes _. refl
no_word Within namespace (vector fs) none = λ bytes _. refl
no_word Within namespace (set fs) none = λ bytes _. refl
no_word Within namespace (entries ps) none = λ bytes _. refl

keyword_so : (f : Form) (name : List ℕ) → word Edn f ≡ Some name → f ≡ keyword name
keyword_so nil name is = absurd (cc)
keyword_so (boolean b) name is = absurd (cc)
keyword_so (integer z) name is = absurd (cc)
keyword_so (number text) name is = absurd (cc)
keyword_so (string text) name is = absurd (cc)
keyword_so (character text) name is = absurd (cc)
keyword_so (keyword text) name is = ap keyword (let same : text ≡ name = cc in same)
keyword_so (symbol text) name is = absurd (cc)
keyword_so (list fs) name is = absurd (cc)
keyword_so (vector fs) name is = absurd (cc)
keyword_so (set fs) name is = absurd (cc)
keyword_so (entries ps) name is = absurd (cc)

-- the namespace `_` is left out, and any other stands before a slash
module _ (namespace name : List ℕ) (f : Form) (is : word Edn f ≡ Some name) where
  pub blank_word : (rest : List ℕ) → name ≡ 95 ∷ 47 ∷ rest → word Edn (key_of Within namespace f) ≡ Some rest
  blank_word rest blank = ap (λ k. word Edn (key_in namespace k)) (keyword_so f name is ∙ ap keyword blank)

  pub other_word : pointwise nat_eq (take 2 name) (codes "_/") ≡ false → IsNoWord (key_of Within namespace f)
  other_word other =
      subst (λ k. IsNoWord (key_in namespace k)) (sym (keyword_so f name is))
      (λ bytes none. slash_so (qualified namespace name) bytes (qualified_slash namespace name other) none)

pub none_then : {X P Q : Type 0} (o : Option X) → (P → Q) → IfNone o P → IfNone o Q
none_then None f p = f p
none_then (Some x) f p = tt
