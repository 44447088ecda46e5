-- The lists that a packed list stands for, and room for more.
use Rattle.std.specs.Prelude.{ℕ, ◌+◌, ◌<◌, ◌≤◌, ◌^◌, List, length, vec_len, vec_capacity}
use Rattle.adya_keys.specs.Machinery.Ends.{parts_in}
use Rattle.adya_keys.specs.Machinery.Indices.{indices_in, CanPush}
use Rattle.adya_keys.specs.declared.parts.Parts.{Parts}

abbrev pub parts_of : {A : Type 0} → Parts A → List (List A)
parts_of p = parts_in p.all.items (indices_in p.ends) 0

-- so many more parts fit that have so many elements in all
pub record HasRoom {A : Type 0} (p : Parts A) (parts elements : ℕ) : Type 0 where
  pub ends : CanPush p.ends parts (length p.all.items + elements)
  pub all : vec_len p.all + elements ≤ vec_capacity p.all
  pub few : length (indices_in p.ends) + parts < 2 ^ 60
