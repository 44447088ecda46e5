-- What is within a list: a part of it, the key with a number, and a list that it begins with.
use Rattle.std.specs.Prelude.{◌≡◌, ℕ, List, [], ◌++◌, take, drop}
use Rattle.std.proofs.Common.{get_or}
use Rattle.adya_keys.specs.Meaning.Keys.{Key}

-- so many elements from this place on
abbrev pub part : {A : Type 0} → ℕ → ℕ → List A → List A
part at n xs = take n (drop at xs)

-- the key with the number
abbrev pub key_at : List Key → ℕ → Key
key_at ks n = get_or ks n []

-- the second list begins with the first
abbrev pub IsFront : {A : Type 0} → List A → List A → Type 0
IsFront xs ys = (more : List _) × (ys ≡ xs ++ more)
