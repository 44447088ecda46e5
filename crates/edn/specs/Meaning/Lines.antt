-- Lines, which end at line feeds.
use Rattle.std.specs.Prelude.{◌≡◌, ℕ, suc, ◌+◌, ◌-◌, ◌^◌, ◌==◌, min, List, [], ◌∷◌, ◌++◌, Option, Some, if◌then◌else◌}
use Rattle.edn.specs.declared.read_fault.ReadFault.{ReadFault}
use Rattle.edn.specs.declared.read_fault.ReadFault.TheVariants.{Syntax, Device, Memory}

-- how many line feeds the bytes have
abbrev pub feeds : List ℕ → ℕ
feeds [] = 0
feeds (b ∷ bs) = if b == 10 then suc (feeds bs) else feeds bs

-- the line, counted from 1, on which a text goes on behind its front; it is counted up to the greatest number of 64 bits
unfoldable pub line_after : List ℕ → ℕ
line_after front = min (1 + feeds front) (2 ^ 64 - 1)

-- of the text this is left, which goes on on this line
abbrev pub IsAt : List ℕ → Option (List ℕ) → ℕ → Type 0
IsAt text left line =
    (front : List ℕ) × (rest : List ℕ) × (text ≡ front ++ rest) × (left ≡ Some rest) × (line ≡ line_after front)

-- a fault of the text names this line
abbrev pub NamesLine : ℕ → ReadFault → Type 0
NamesLine n (Syntax line problem) = line ≡ n
NamesLine n Device = Unit {0}
NamesLine n Memory = Unit {0}
