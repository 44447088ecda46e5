-- Lines that follow one another: a stage says which line may come next, and each line leads on to a stage and adds to
-- what the lines before it hold.
use Rattle.std.specs.Prelude.{◌≡◌, ℕ, Bool, true, List, [], ◌∷◌, map}
use Rattle.std.specs.List.{AllByRecursion}
use Rattle.adya_line.specs.Meaning.Lines.{Spells}

-- stages, what lines hold, and lines: a run begins at the start and with nothing held, and is complete when it is done
pub record Machine (S H L : Type 0) : Type 1 where
  pub allows : S → L → Bool
  pub after : S → L → S
  pub with_line : H → L → H
  pub text : L → List ℕ
  pub good : L → Type 0
  pub start : S
  pub done : S
  pub nothing : H

-- each line is allowed where it comes
abbrev pub IsRun : {S H L : Type 0} → Machine S H L → S → List L → Type 0
IsRun m s [] = Unit {0}
IsRun m s (x ∷ xs) = (m.allows s x ≡ true) × IsRun m (m.after s x) xs

-- what the lines lead to, one after the other
abbrev pub end_of : {S L : Type 0} → (S → L → S) → S → List L → S
end_of after s [] = s
end_of after s (x ∷ xs) = end_of after (after s x) xs

-- the texts are those of the lines of a run from the start to the stage, and the lines hold this
pub record HasRun {S H L : Type 0} (m : Machine S H L) (stage : S) (held : H) (texts : List (List ℕ)) : Type 0 where
  pub items : List L
  pub goods : AllByRecursion m.good items
  pub runs : IsRun m m.start items
  pub ends : end_of m.after m.start items ≡ stage
  pub holds : end_of m.with_line m.nothing items ≡ held
  pub same : texts ≡ map m.text items

-- no line of this text may come at the stage
abbrev pub IsRefused : {S H L : Type 0} → Machine S H L → S → List ℕ → Type 0
IsRefused {L = L} m s text = (x : L) → Spells m.good m.text x text → m.allows s x ≡ true → ⊥

-- the line of this text may come at the stage
abbrev pub IsAllowed : {S H L : Type 0} → Machine S H L → S → List ℕ → L → Type 0
IsAllowed m s text x = Spells m.good m.text x text × (m.allows s x ≡ true)
