-- Short texts.
use Rattle.std.specs.Prelude.{ℕ, List, take}
use Rattle.edn.specs.declared.short.Short.{Short}

-- the bytes of the text
abbrev pub short_text : Short → List ℕ
short_text s = take s.len s.bytes
