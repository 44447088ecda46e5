-- What a get and both kinds of scans share.
use Rattle.std.specs.Prelude.{◌≡◌, ℕ, true, List, [], ◌∷◌, ◌++◌, Option, Some}
use Rattle.adya_keys.specs.Meaning.Keys.{key_eq}
use Rattle.adya_values.specs.Meaning.Histories.{Event}
use Rattle.ssi_conflict.specs.Computing.Steps.{smallest_ordered_pivot}
use Rattle.ssi_conflict.specs.Meaning.Calls.{Call}
use Rattle.ssi_conflict.specs.Clauses.Allowed.{AreAllowed}
use Rattle.ssi_store.specs.Meaning.Acts.{Act, Begins, Writes, Gets, Scans, Commits, Aborts, Collects, acts, act_by}
use Rattle.ssi_store.specs.Meaning.Courses.{Command, Answer, Course, Then, Unsafe, is_of, txn_in, txn_for, txn_after, next_txn}
use Rattle.ssi_store.specs.Clauses.Following.{is_proper}
use Rattle.ssi_store.specs.Meaning.Recording.{recorded}
use Rattle.ssi_store.specs.Meaning.Replies.{reply, may_run_out_of_memory, unless_pivot}
use Rattle.ssi_store.specs.Meaning.Tracked.{tracked}

-- the act is a get or a scan of the transaction
abbrev pub IsLookOf : ℕ → Act → Type 0
IsLookOf t (Gets u k) = u ≡ t
IsLookOf t (Scans u low high) = u ≡ t
IsLookOf t (Begins u) = ⊥
IsLookOf t (Writes u k c) = ⊥
IsLookOf t (Commits u) = ⊥
IsLookOf t (Aborts u) = ⊥
IsLookOf t Collects = ⊥

-- the command is a get or a scan of the session's transaction; the tracker is told of it by these calls, this event is
-- recorded of it, and this is its answer unless a pivot would stand
pub record IsLook (s : List ℕ) (t : ℕ) (calls : List Call) (e : Event) (a : Answer) (c : Course) (m : Command) : Type 0 where
  pub act : Act
  pub looks : IsLookOf t act
  pub session : (r : List ℕ) → is_of r m ≡ key_eq s r
  pub txn : txn_for m c ≡ txn_in s c
  pub here : txn_in s c ≡ Some t
  pub proper : is_proper m ≡ true
  pub told : tracked (act ∷ acts c) ≡ calls ++ tracked (acts c)
  pub allowed : AreAllowed (tracked (act ∷ acts c))
  pub records : recorded act (acts c) ≡ e ∷ []
  pub replies : reply smallest_ordered_pivot c m ≡ unless_pivot (smallest_ordered_pivot (tracked (act ∷ acts c))) a
  pub does : act_by (Some t) m a ≡ act ∷ []
  pub keeps : (y : Option ℕ) → txn_after y a ≡ y
  pub next : next_txn (Then c m a) ≡ next_txn c
  pub aborts : (p : ℕ) → act_by (Some t) m (Unsafe p) ≡ Aborts t ∷ []
  pub memory : (p : Option ℕ) → may_run_out_of_memory m (unless_pivot p a) ≡ true
