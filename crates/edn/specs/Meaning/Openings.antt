-- Brackets that open collections.
use Rattle.edn.specs.Meaning.Names.{Namespace}

-- `(`, `[`, `#{`, and `{`, which may stand after `#:` and a namespace
pub data Opening : Type 0 where
  List : Opening
  Vector : Opening
  Set : Opening
  Map : Namespace → Opening
