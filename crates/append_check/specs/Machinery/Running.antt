-- The lists that the code keeps, and a run on them.
use Rattle.std.specs.Prelude.{ℕ, Bool, false, cond, List, [], Option, Some, None, slice_index_or, nat_eq}
use Rattle.std.specs.HashMap.{get}
use Rattle.std.specs.Global.{Vec}
use Rattle.append_values.specs.Meaning.Runs.{Lists}
use Rattle.append_check.specs.declared.lists.Lists.{Lists as ListsValue}

abbrev pub list_in : Option (Vec ℕ) → List ℕ
list_in None = []
list_in (Some v) = v.items

-- the list of each key
abbrev pub lists_of : ListsValue → Lists
lists_of l k = list_in (get nat_eq l.by_key k)

-- how often a place is listed, by a flag for each
abbrev pub flag : List Bool → ℕ → ℕ
flag flags t = cond (slice_index_or flags t false) 1 0
