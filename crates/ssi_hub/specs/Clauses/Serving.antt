-- When what a hub has stands for a list of calls.
use Rattle.std.specs.Prelude.{◌≡◌, ℕ, ◌<◌, Bool, if◌then◌else◌, List, ◌++◌, All, Option, Some, None}
use Rattle.std.specs.List.{AllByRecursion}
use Rattle.adya_keys.specs.Meaning.Keys.{Bytes}
use Rattle.adya_line.specs.Meaning.Lines.{IsPlain}
use Rattle.adya_text.specs.Meaning.Texts.{with_ends}
use Rattle.ssi_line.specs.Meaning.Steps.{AreStepsOf, steps_text}
use Rattle.ssi_hub.specs.Clauses.Clipping.{clipped}
use Rattle.ssi_hub.specs.Clauses.Buffers.{Buffers}
use Rattle.ssi_hub.specs.Clauses.Runs.{EndsSo}
use Rattle.ssi_hub.specs.Clauses.Calls.{Call, token_of, is_open, sent_by, lines_of, steps_of, written_to, all_steps}

-- what the connection sent are its lines that were carried out, and then `left`; each of these lines made its step; the
-- texts of the steps, in order, are what was written to it, and then `unsent`
pub record IsServed (keeps : Bool) (t : ℕ) (calls : List Call) (left unsent : Bytes) : Type 0 where
  pub plain : All IsPlain (lines_of t calls)
  pub cut : sent_by t calls ≡ with_ends (lines_of t calls) ++ left
  pub made : AreStepsOf keeps (lines_of t calls) (steps_of t calls)
  pub replies : steps_text (steps_of t calls) ≡ written_to t calls ++ unsent

-- each connection that is open, and no other, has these buffers; each call has a token that was given; and the run was
-- stopped or wasn't
pub record StandsFor (keeps : Bool) (buffers : ℕ → Option Buffers) (next : ℕ) (stopped : Bool) (calls : List Call) : Type 0 where
  pub served : (t : ℕ) → (left : Bytes) × (unsent : Bytes) × IsServed keeps t calls left unsent
      × (buffers t ≡ (if is_open t calls then Some (record { waiting = clipped left; unsent = unsent }) else None))
  pub given : AllByRecursion (λ c. token_of c < next) calls
  pub ends : EndsSo stopped (all_steps calls)
