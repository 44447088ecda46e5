-- The numbers of a list that holds them in 32 bits while they fit, and room for more.
use Rattle.std.specs.Prelude.{ℕ, ◌+◌, ◌≤◌, ◌≡◌, Bool, true, nat_le, List, vec_len, vec_capacity}
use Rattle.adya_keys.specs.declared.indices.Indices.{Indices}
use Rattle.adya_keys.specs.declared.indices.Indices.TheVariants.{Small, Large}

abbrev pub indices_in : Indices → List ℕ
indices_in (Small v) = v.items
indices_in (Large v) = v.items

-- the list can hold the number as it is
abbrev pub fits_in : Indices → ℕ → Bool
fits_in (Small v) n = nat_le n 4294967295
fits_in (Large v) n = true

-- how many numbers there are, and how many there is memory for
abbrev pub count_in : Indices → ℕ
count_in (Small v) = vec_len v
count_in (Large v) = vec_len v

abbrev pub capacity_in : Indices → ℕ
capacity_in (Small v) = vec_capacity v
capacity_in (Large v) = vec_capacity v

-- so many more numbers fit, none of which is above this one
pub record CanPush (x : Indices) (n most : ℕ) : Type 0 where
  pub room : count_in x + n ≤ capacity_in x
  pub fits : fits_in x most ≡ true
