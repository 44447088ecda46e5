-- What a text is made of.
use Rattle.std.specs.Prelude.{Bool, true, false}
use Rattle.edn.specs.declared.token.Closing.{Closing}
use Rattle.edn.specs.Meaning.Forms.{Form}
use Rattle.edn.specs.Meaning.Openings.{Opening, Vector}

-- a bracket, `#_`, a `#` and a symbol, `^` or `#^`, or a form that is no collection
pub data Token : Type 0 where
  opens : Opening → Token
  closes : Closing → Token
  discard : Token
  tag : Token
  meta : Token
  leaf : Form → Token

-- `[`
abbrev pub is_square : Token → Bool
is_square (opens Vector) = true
is_square _ = false
