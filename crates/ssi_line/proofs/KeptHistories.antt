-- What lines ask for, of a store that keeps its history and of one that doesn't.
use Rattle.std.proofs.Common.{◌≡◌, Bool, true, false, refl, inr}
use Rattle.ssi_line.specs.Meaning.Spelling.{Dump, line_text}
use Rattle.ssi_line.specs.Meaning.Steps.{AsksForNothing, IfKept}

pub when_kept : {P : Type 0} (keeps : Bool) → true ≡ keeps → P → IfKept keeps P
when_kept true is p = p
when_kept false is p = cc

pub no_dump : (keeps : Bool) → false ≡ keeps → AsksForNothing keeps (line_text Dump)
no_dump true is = cc
no_dump false is = inr refl
