-- Whether a list has a write and nothing else of its key, entry by entry.
use Rattle.std.proofs.Common.{◌≡◌, Bool, true, false, not, List, ◌∷◌, refl, ◌∙◌, ap}
use Rattle.std.specs.Prelude.{◌&&◌, ◌||◌}
use Rattle.std.specs.List.{list_all, list_any}
use Rattle.std.proofs.Math.Bool.{and-false}
use Rattle.std.proofs.lemmas.Bool.{or_right}
use Rattle.adya_keys.specs.Meaning.Keys.{key_eq}
use Rattle.adya_values.specs.Meaning.Histories.{Entry}
use Rattle.adya_values.specs.Computing.Faults.{entry_eq}
use Rattle.adya_values.proofs.Entries.{entry_eq-turned}
use Rattle.adya_terms.specs.Machinery.Checks.{is_of_key}

-- the write was found or is among these, and nothing else of its key is
abbrev pub judged : Entry → Bool → List Entry → Bool
judged w found xs = (found || list_any (entry_eq w) xs) && list_all (is_of_key w) xs

module _ (w : Entry) (found : Bool) (x : Entry) (xs : List Entry) where
  of_key : entry_eq w x ≡ true → is_of_key w x ≡ true
  of_key hit = or_right _ _ (entry_eq-turned x w ∙ hit)

  pub judged_found : entry_eq w x ≡ true → judged w found (x ∷ xs) ≡ judged w true xs
  judged_found hit =
      ap (λ b. (found || (b || list_any (entry_eq w) xs)) && (is_of_key w x && list_all (is_of_key w) xs)) hit ∙
      (ap (λ b. b && (is_of_key w x && list_all (is_of_key w) xs)) (or_right found true refl) ∙
      ap (λ b. b && list_all (is_of_key w) xs) (of_key hit))

  pub judged_other : entry_eq w x ≡ false → key_eq x.version.key w.version.key ≡ false → judged w found (x ∷ xs) ≡ judged w found xs
  judged_other miss other =
      ap (λ b. (found || (b || list_any (entry_eq w) xs)) && (is_of_key w x && list_all (is_of_key w) xs)) miss ∙
      ap (λ b. (found || list_any (entry_eq w) xs) && ((not b || entry_eq x w) && list_all (is_of_key w) xs)) other

  pub judged_wrong : entry_eq w x ≡ false → key_eq x.version.key w.version.key ≡ true → judged w found (x ∷ xs) ≡ false
  judged_wrong miss same =
      ap (λ b. (found || list_any (entry_eq w) (x ∷ xs)) && ((not b || entry_eq x w) && list_all (is_of_key w) xs)) same ∙
      (ap (λ b. (found || list_any (entry_eq w) (x ∷ xs)) && (b && list_all (is_of_key w) xs)) (entry_eq-turned x w ∙ miss) ∙
      and-false (found || list_any (entry_eq w) (x ∷ xs)))
