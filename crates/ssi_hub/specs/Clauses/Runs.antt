-- What a run of the lines of one connection does.
use Rattle.std.specs.Prelude.{◌≡◌, ◌≤◌, ◌<◌, ◌+◌, ◌⊎◌, ℕ, Bool, true, false, List, [], ◌∷◌, ◌++◌, All, Option, Some, None, length, if◌then◌else◌}
use Rattle.adya_keys.specs.Meaning.Keys.{Bytes}
use Rattle.adya_line.specs.Meaning.Lines.{IsPlain}
use Rattle.adya_text.specs.Meaning.Texts.{with_ends}
use Rattle.ssi_store.specs.Meaning.Courses.{Course}
use Rattle.ssi_line.specs.Meaning.Steps.{Step, Stopped, AreStepsOf, AllGoOn, step_text, steps_text, EndsWith}
use Rattle.ssi_line.specs.Clauses.Ends.{WentOn}
use Rattle.ssi_line.specs.Clauses.Answers.{kept}
use Rattle.ssi_hub.specs.Clauses.Clipping.{clipped, has_line}
use Rattle.ssi_hub.specs.Clauses.Buffers.{Buffers}

-- no step is `Stopped`; or the last one is, and no other
abbrev pub EndsSo : Bool → List Step → Type 0
EndsSo false steps = AllGoOn steps
EndsSo true steps = EndsWith steps Stopped

-- no step is begun while more than 65536 bytes are unsent; n are before the first
abbrev pub AreBegun : ℕ → List Step → Type 0
AreBegun n [] = Unit {0}
AreBegun n (s ∷ ss) = (n ≤ 65536) × AreBegun (n + length (step_text s)) ss

-- these lines, the first of the bytes of which `old.waiting` is what was kept, were carried out one after the other: each
-- made its step, and `left` is left. The last step stopped the run or didn't. The replies were added to what is unsent,
-- unless memory couldn't hold the last one and it is lost. The store keeps its history or doesn't
pub record CarriedOut {T : Type 0} (keeps : Bool) (is_at : T → Course → Type 0) (old : Buffers) (bytes : Bytes) (store : T)
    (stops lost : Bool) (lines : List Bytes) (steps : List Step) (left : Bytes) (new : Buffers) (after : T)
    : Type 0 where
  pub plain : All IsPlain lines
  pub cut : bytes ≡ with_ends lines ++ left
  pub waits : new.waiting ≡ clipped left
  pub made : AreStepsOf keeps lines steps
  pub replies : lost ≡ false → new.unsent ≡ old.unsent ++ steps_text steps
  pub went : WentOn is_at store steps after
  pub ends : EndsSo stops steps
  pub begun : AreBegun (length old.unsent) steps

-- at most so many lines were carried out, and one at least if a reply is lost. If the run goes on and whole lines wait, then
-- they are exactly so many, or more than 65536 bytes are unsent
pub record IsEnough (stops lost : Bool) (most : ℕ) (lines : List Bytes) (new : Buffers) : Type 0 where
  pub few : length lines ≤ most
  pub some : lost ≡ true → 0 < length lines
  pub paused : stops ≡ false → lost ≡ false → has_line new.waiting ≡ true
      → (length lines ≡ most) ⊎ (65536 < length new.unsent)

-- these lines of a connection that had these buffers were carried out, and made these steps: at most so many; one at least if a
-- reply is lost. If the run wasn't stopped, a whole line waited and at most 65536 bytes were unsent, then the first one is
-- the line that waited
pub record IsTaken (keeps stopped lost : Bool) (most : ℕ) (had : Option Buffers) (lines : List Bytes) (steps : List Step)
    : Type 0 where
  pub few : length lines ≤ most
  pub some : lost ≡ true → 0 < length lines
  pub made : AreStepsOf keeps lines steps
  pub first : (b : Buffers) (line rest : Bytes) → stopped ≡ false → had ≡ Some b → b.waiting ≡ line ++ (10 ∷ rest)
      → IsPlain line → length b.unsent ≤ 65536 → 0 < most
      → (text : Bytes) × (others : List Bytes) × (lines ≡ text ∷ others) × (kept line ≡ kept text)

-- what the hub then has of the connection: it is closed if its last reply is lost
abbrev pub left_by : Bool → Buffers → Option Buffers
left_by lost new = if lost then None else Some new
