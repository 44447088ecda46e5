-- Lines of any kind: which are within their limits, and the text of each.
use Rattle.std.specs.Prelude.{◌≡◌, ◌≢◌}
use Rattle.std.specs.List.{All}
use Rattle.adya_keys.specs.Meaning.Keys.{Bytes}

-- without line feeds
abbrev pub IsPlain : Bytes → Type 0
IsPlain bytes = All (λ b. b ≢ 10) bytes

pub record Spells {L : Type 0} (IsLine : L → Type 0) (line_text : L → Bytes) (x : L) (text : Bytes) : Type 0 where
  pub good : IsLine x
  pub same : text ≡ line_text x

abbrev pub SpellsNone : {L : Type 0} → (L → Type 0) → (L → Bytes) → Bytes → Type 0
SpellsNone {L = L} IsLine line_text text = (x : L) → Spells IsLine line_text x text → ⊥
