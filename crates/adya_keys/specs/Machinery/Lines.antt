-- The lines that packed lines stand for: a key and items each.
use Rattle.std.specs.Prelude.{List}
use Rattle.std.specs.List.{zip}
use Rattle.adya_keys.specs.Meaning.Keys.{Key}
use Rattle.adya_keys.specs.Machinery.Parts.{parts_of}
use Rattle.adya_keys.specs.declared.lines.Lines.{Lines}

abbrev pub lines_of : {A : Type 0} → Lines A → List (Key × List A)
lines_of ls = zip (parts_of ls.keys) (parts_of ls.items)
