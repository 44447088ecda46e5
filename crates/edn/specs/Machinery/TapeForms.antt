-- The forms of a tape.
use Rattle.std.specs.Prelude.{List}
use Rattle.edn.specs.declared.tape.Tape.{Tape}
use Rattle.edn.specs.Meaning.Forms.{Form}
use Rattle.edn.specs.Meaning.Tapes.{forms_in}

-- the newest first
abbrev pub tape_forms : Tape → List Form
tape_forms t = forms_in t.nodes.items
