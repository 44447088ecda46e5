-- What is open in a builder.
use Rattle.std.specs.Prelude.{List, ◌∷◌, drop, reverse, Bool, Option, Some, None, if◌then◌else◌}
use Rattle.edn.specs.declared.builder.Builder.{Builder}
use Rattle.edn.specs.Meaning.Forms.{Form}
use Rattle.edn.specs.Meaning.Tapes.{first_of}
use Rattle.edn.specs.Machinery.TapeForms.{tape_forms}
use Rattle.edn.specs.Computing.Building.{Frame, frames}

-- the innermost first
abbrev pub stack_of : Builder → List Frame
stack_of b = frames (b.inner ∷ reverse b.outer.items) (tape_forms b.forms)

-- the same without the last form
abbrev pub under : Builder → List Frame
under b = frames (b.inner ∷ reverse b.outer.items) (drop 1 (tape_forms b.forms))

-- the last form, if it was made
abbrev pub made_if : Bool → Builder → Option Form
made_if done b = if done then Some (first_of (tape_forms b.forms)) else None
