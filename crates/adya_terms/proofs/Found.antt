-- What is found at an index.
use Rattle.std.proofs.Common.{◌≡◌, ℕ, ◌<◌, List, Option, Some, None, length, option_map, slice_get, refl, sym, ◌∙◌, ap}
use Rattle.std.proofs.lemmas.Option.{none-some, same_Some, slice_get_within}

pub found_is : {X Y : Type 0} (f : X → Y) (o : Option X) (x : X) (y : Y) → option_map f o ≡ Some y → o ≡ Some x → f x ≡ y
found_is f o x y is found = same_Some _ _ (sym (ap (option_map f) found) ∙ is)

-- what stands there, if its key is known
pub has_key : {X Y : Type 0} (key : X → Y) (o : Option X) (k : Y) → option_map key o ≡ Some k → (x : X) × (o ≡ Some x) × (key x ≡ k)
has_key key None k e = absurd (none-some k e)
has_key key (Some x) k e = (x, refl, same_Some _ _ e)

-- something stands there
pub found_within : {X Y : Type 0} (key : X → Y) (xs : List X) (i : ℕ) (k : Y) → option_map key (slice_get xs i) ≡ Some k → i < length xs
found_within key xs i k e = let x = has_key key (slice_get xs i) k e in slice_get_within xs i x.0 x.1
