-- Where `serve` keeps what it does, by the arguments of a request.
use Rattle.std.proofs.Common.{◌≡◌, ℕ, ◌==◌, true, false, List, [], ◌∷◌, refl, ap, ap₂, codes, not, inl, inr}
use Rattle.std.specs.List.{before_first}
use Rattle.std.specs.Prelude.{◌||◌, if◌then◌else◌}
use Rattle.std.specs.Str.{bytes_eq}
use Rattle.std.proofs.lemmas.Bool.{and_parts, and_right, cases_Bool, eqb-false, not-true}
use Rattle.std.proofs.lemmas.Slice.Eq.{bytes_eq-Decides}
use Rattle.ssi_arguments.specs.Clauses.Arguments.{Request, pipe, audit, order, script, serve, keep, seal, are_plain, is_plain, arguments_of, paths_of, storage_for}
use Rattle.ssi_arguments.specs.Clauses.Storage.{has_option, is_option, storage_in}
use Rattle.ssi_arguments.specs.declared.arguments.Manner.TheVariants.{InTurn, AtOnce, Aborting}
use Rattle.ssi_arguments.specs.declared.storage.Storage.TheVariants.{Files, Folder}
use Rattle.ssi_arguments.proofs.OptionNames.{before_first-begins}

-- ---- an argument that doesn't begin with a hyphen is no option that does

module _ (option : List ℕ) where
  begins_with_hyphen : (word : List ℕ) → is_plain word ≡ true → before_first (λ b. b == 61) word ≡ 45 ∷ option → ⊥
  begins_with_hyphen [] p e = absurd (cc e)
  begins_with_hyphen (b ∷ bs) p e = eqb-false b 45 (not-true (b == 45) p) (before_first-begins b bs 45 option e).0

  is_option-plain : (word : List ℕ) → is_plain word ≡ true → is_option (45 ∷ option) word ≡ false
  is_option-plain word p = elim (cases_Bool (is_option (45 ∷ option) word)) [
    | inl is ↦ absurd (begins_with_hyphen word p ((bytes_eq-Decides (before_first (λ b. b == 61) word) (45 ∷ option)).0 is))
    | inr is ↦ is
  ]

  has_option-plain : (words : List (List ℕ)) → are_plain words ≡ true → has_option (45 ∷ option) words ≡ false
  has_option-plain [] p = refl
  has_option-plain (word ∷ words) p =
      let parts = and_parts (is_plain word) (are_plain words) p in
      and_right (not (bytes_eq word (codes "--"))) (is_option (45 ∷ option) word || has_option (45 ∷ option) words)
      (ap₂ (λ a b. a || b) (is_option-plain word parts.0) (has_option-plain words parts.1))

-- ---- the whole

no_data : (words : List (List ℕ)) → are_plain words ≡ true → has_option (codes "--data") words ≡ false
no_data words p = has_option-plain (codes "-data") words p

pub storage_in-plain : (words : List (List ℕ)) → are_plain words ≡ true → storage_in words ≡ Files
storage_in-plain [] p = refl
storage_in-plain (word ∷ words) p =
    ap (λ b. if b then Folder else Files) (and_right (bytes_eq word (codes "serve")) (has_option (codes "--data") words)
    (no_data words (and_parts (is_plain word) (are_plain words) p).1))

pub storage_in-arguments : (r : Request) → are_plain (paths_of r) ≡ true → storage_in (arguments_of r) ≡ storage_for r
storage_in-arguments pipe p = refl
storage_in-arguments (audit h c) p = refl
storage_in-arguments (order h) p = refl
storage_in-arguments (script h c) p = refl
storage_in-arguments (serve InTurn s h c) p = ap (λ b. if b then Folder else Files) (no_data (s ∷ h ∷ c ∷ []) p)
storage_in-arguments (serve AtOnce s h c) p = ap (λ b. if b then Folder else Files) (no_data (s ∷ h ∷ c ∷ []) p)
storage_in-arguments (serve Aborting s h c) p = ap (λ b. if b then Folder else Files) (no_data (s ∷ h ∷ c ∷ []) p)
storage_in-arguments (keep l r g i s f) p = refl
storage_in-arguments (seal f) p = refl
