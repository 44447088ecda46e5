-- The tests that the constructors of histories make: no order is empty, orders and finals are sorted by key, and no
-- key is there twice. Edition One has no unfinished transactions; those of edition Two rise.
use Rattle.std.specs.Prelude.{ℕ, Bool, true, ◌&&◌, ◌==◌, not, nat_lt, List, [], ◌∷◌, map, length}
use Rattle.std.specs.List.{list_all}
use Rattle.adya_keys.specs.Meaning.Keys.{keys_rise}
use Rattle.adya_values.specs.declared.edition.Edition.{Edition}
use Rattle.adya_values.specs.declared.edition.Edition.TheVariants.{One, Two}
use Rattle.adya_values.specs.Meaning.Histories.{Order, FinalPair}

abbrev pub is_shape : List Order → List FinalPair → Bool
is_shape orders finals =
    list_all (λ o. not (length o.writers == 0)) orders && keys_rise (map (λ o. o.key) orders) && keys_rise (map (λ f. f.key) finals)

-- each number is below the next
abbrev pub numbers_rise : List ℕ → Bool
numbers_rise [] = true
numbers_rise (t ∷ []) = true
numbers_rise (t ∷ u ∷ ts) = nat_lt t u && numbers_rise (u ∷ ts)

abbrev pub fits_edition : Edition → List ℕ → Bool
fits_edition One unfinished = length unfinished == 0
fits_edition Two unfinished = numbers_rise unfinished
