-- Texts that are those of one line alone.
use Rattle.std.specs.Prelude.{◌≡◌}
use Rattle.adya_keys.specs.Meaning.Keys.{Bytes}
use Rattle.adya_line.specs.Meaning.Lines.{Spells}

-- the text is that of this line, and of no other
pub record SpellsOnly {L : Type 0} (IsLine : L → Type 0) (line_text : L → Bytes) (x : L) (text : Bytes) : Type 0 where
  pub line : Spells IsLine line_text x text
  pub only : (y : L) → Spells IsLine line_text y text → y ≡ x
