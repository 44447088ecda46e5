-- The lives of a server of which only the reply `committed` waits for the disk.
use Rattle.std.specs.Prelude.{◌≡◌, ℕ, List, [], ◌∷◌, ◌++◌}
use Rattle.std.specs.List.{AllByRecursion}
use Rattle.adya_keys.specs.Meaning.Keys.{Bytes}
use Rattle.ssi_store.specs.Meaning.Courses.{Course, New}
use Rattle.ssi_hub.specs.Clauses.Calls.{Call, all_steps}
use Rattle.ssi_durable.specs.Meaning.Early.{IsToldEarly}
use Rattle.ssi_durable.specs.Meaning.Lines.{IsBetween}
use Rattle.ssi_durable.specs.Meaning.Lives.{IsExplained}
use Rattle.ssi_durable.specs.Meaning.Logs.{logged, HaveLed}
use Rattle.ssi_durable.specs.Meaning.Replays.{Replays}

-- the calls since a server has begun a segment, and those of its connections before that
pub record EarlyLife : Type 0 where
  pub before : List Call
  pub calls : List Call

-- One life: the lines at its start, the calls, and the lines that are left, among them all those of the calls `sure`
pub record IsEarlyLife (lines : List Bytes) (life : EarlyLife) (left : List Bytes) : Type 0 where
  pub start : Course
  pub replayed : Replays (New 1) lines start
  pub end : Course
  pub led : HaveLed start life.calls end
  pub sure : List Call
  pub recent : List Call
  pub cut : life.calls ≡ recent ++ sure
  pub between : IsBetween (lines ++ logged sure) left (lines ++ logged life.calls)
  pub told : (t : ℕ) → IsToldEarly t (sure ++ life.before) recent

-- lives one after the other, the first one first
abbrev pub AreEarlyLives : List Bytes → List EarlyLife → List Bytes → Type 0
AreEarlyLives lines [] left = left ≡ lines
AreEarlyLives lines (life ∷ lives) left = (next : List Bytes) × IsEarlyLife lines life next × AreEarlyLives next lives left

-- Of a life: the lines of the calls `sure` are left, and what is left explains each of their steps. The lines at its start and those
-- that it carried out explain each step of the life. What was written to each connection rests on the sure ones, and then on those
-- before the first commit after them
pub record IsEarlyKept (left : List Bytes) (life : EarlyLife) : Type 0 where
  pub lines : List Bytes
  pub sure : List Call
  pub recent : List Call
  pub cut : life.calls ≡ recent ++ sure
  pub rest : List Bytes
  pub parts : left ≡ lines ++ (logged sure ++ rest)
  pub kept : AllByRecursion (IsExplained left) (all_steps sure)
  pub explained : AllByRecursion (IsExplained (lines ++ logged life.calls)) (all_steps life.calls)
  pub told : (t : ℕ) → IsToldEarly t (sure ++ life.before) recent
