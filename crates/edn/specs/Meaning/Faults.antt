-- What a fault says.
use Rattle.std.specs.Prelude.{◌≡◌, ◌≢◌}
use Rattle.edn.specs.declared.read_fault.Problem.TheVariants.{Depth}
use Rattle.edn.specs.declared.read_fault.ReadFault.{ReadFault}
use Rattle.edn.specs.declared.read_fault.ReadFault.TheVariants.{Syntax, Device, Memory}

-- something is wrong with the text, other than that forms are nested too deep
abbrev pub IsOfText : ReadFault → Type 0
IsOfText (Syntax line problem) = problem ≢ Depth
IsOfText Device = ⊥
IsOfText Memory = ⊥

-- forms are nested too deep
abbrev pub IsOfDepth : ReadFault → Type 0
IsOfDepth (Syntax line problem) = problem ≡ Depth
IsOfDepth Device = ⊥
IsOfDepth Memory = ⊥
