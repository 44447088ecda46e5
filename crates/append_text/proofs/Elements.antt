-- One element more of a list whose elements stand for forms.
use Rattle.std.proofs.Common.{◌≡◌, ℕ, ◌+◌, ◌<◌, List, [], ◌∷◌, ◌++◌, length, take, drop, get_or, map, sym, ap, ◌∙◌, arith}
use Rattle.std.proofs.lemmas.List.{drop_more, length-map, length-take-le, map-append, map_more, take-append-drop}
use Rattle.edn.specs.Meaning.Forms.{Form}

module _ {X : Type 0} (form : X → Form) (xs : List X) (k : ℕ) (x : X) (within : k < length xs) (is : x ≡ get_or xs k x) where
  pub first_more : map form (take k xs) ++ form x ∷ [] ≡ map form (take (k + 1) xs)
  first_more = ap (λ y. map form (take k xs) ++ form y ∷ []) is ∙ sym (map_more form xs k x within)

  pub split_there : map form xs ≡ map form (take k xs) ++ form x ∷ map form (drop (k + 1) xs)
  split_there = ap (map form) (sym (take-append-drop k xs) ∙ ap (λ r. take k xs ++ r) (drop_more xs k x within
      ∙ ap (λ y. y ∷ drop (k + 1) xs) (sym is))) ∙ map-append form (take k xs) (x ∷ drop (k + 1) xs)

  pub place_there : k ≡ length (map form (take k xs))
  place_there = sym (length-map (take k xs) form ∙ length-take-le k xs (omega arith))
