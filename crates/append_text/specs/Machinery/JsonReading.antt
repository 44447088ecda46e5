-- What the functions that read JSON promise.
use Rattle.std.specs.Prelude.{◌≡◌, ℕ, List}
use Rattle.edn.specs.Meaning.Forms.{Form}
use Rattle.append_text.specs.declared.read_fault.Place.TheVariants.{Line, Element}
use Rattle.append_text.specs.declared.read_fault.ReadFault.{ReadFault}
use Rattle.append_text.specs.declared.read_fault.ReadFault.TheVariants.{Text, Device, Memory}
use Rattle.append_text.specs.Meaning.JsonTexts.{HasWrong, IsWrongInValue, IsWrongInLines, IsWrongLine}

-- the device failed, or memory ran out
abbrev pub SaysNothing : ReadFault → Type 0
SaysNothing (Text place p) = ⊥
SaysNothing Device = Unit {0}
SaysNothing Memory = Unit {0}

-- the line of this number is refused after those of these forms
abbrev pub IsRefusedLine : ℕ → List Form → List ℕ → ReadFault → Type 0
IsRefusedLine number fs line (Text (Line n) p) = (n ≡ number) × IsWrongLine fs line p
IsRefusedLine number fs line (Text (Element k) p) = ⊥
IsRefusedLine number fs line Device = ⊥
IsRefusedLine number fs line Memory = Unit {0}

-- one of these forms is refused
abbrev pub IsRefusedElement : List Form → ReadFault → Type 0
IsRefusedElement fs (Text (Line n) p) = ⊥
IsRefusedElement fs (Text (Element k) p) = HasWrong fs k p
IsRefusedElement fs Device = ⊥
IsRefusedElement fs Memory = Unit {0}

-- the text is refused as one value
abbrev pub IsRefusedValue : List ℕ → ReadFault → Type 0
IsRefusedValue text (Text place p) = IsWrongInValue text place p
IsRefusedValue text Device = Unit {0}
IsRefusedValue text Memory = Unit {0}

-- the text is refused as one value a line
abbrev pub AreRefusedLines : List ℕ → ReadFault → Type 0
AreRefusedLines text (Text place p) = IsWrongInLines text place p
AreRefusedLines text Device = Unit {0}
AreRefusedLines text Memory = Unit {0}
