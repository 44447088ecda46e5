-- What is open, and how many forms it has.
use Rattle.std.specs.Prelude.{ℕ, Bool, true, false}
use Rattle.edn.specs.declared.builder.Open.{Open}
use Rattle.edn.specs.declared.builder.Open.TheVariants.{Top, Tag, Meta, Discard, Row}
use Rattle.edn.specs.declared.tape.Row.{Row as RowValue}
use Rattle.edn.specs.declared.tape.Row.TheVariants as Of
use Rattle.edn.specs.Computing.Building.{width}

abbrev pub count_in : Open → ℕ
count_in (Top n) = n
count_in Tag = 0
count_in Meta = 0
count_in Discard = 0
count_in (Row row n) = width row n

abbrev pub is_tag : Open → Bool
is_tag Tag = true
is_tag _ = false

-- 1 at a tag, which is left at last even if nothing is around it
abbrev pub to_leave : Open → ℕ
to_leave Tag = 1
to_leave _ = 0

abbrev pub is_map : RowValue → Bool
is_map Of.Map = true
is_map Of.NamespacedMap = true
is_map _ = false
