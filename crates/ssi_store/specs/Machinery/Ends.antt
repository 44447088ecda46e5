-- Commands that abort a transaction.
use Rattle.std.specs.Prelude.{◌≡◌, ℕ, true, List, [], ◌∷◌, Option, Some, None}
use Rattle.adya_keys.specs.Meaning.Keys.{key_eq}
use Rattle.ssi_conflict.specs.Computing.Steps.{smallest_ordered_pivot}
use Rattle.ssi_store.specs.Meaning.Courses.{Command, Answer, Course, Then, is_of, txn_in, txn_for, txn_after, next_txn}
use Rattle.ssi_store.specs.Clauses.Following.{is_proper}
use Rattle.ssi_store.specs.Meaning.Acts.{Aborts, act_by}
use Rattle.ssi_store.specs.Meaning.Replies.{IsAnswer}

-- the command is one of the session, and its answer aborts the session's transaction
pub record IsEnd (s : List ℕ) (t : ℕ) (c : Course) (m : Command) (a : Answer) : Type 0 where
  pub session : (r : List ℕ) → is_of r m ≡ key_eq s r
  pub txn : txn_for m c ≡ txn_in s c
  pub here : txn_in s c ≡ Some t
  pub does : act_by (Some t) m a ≡ Aborts t ∷ []
  pub drops : (x : Option ℕ) → txn_after x a ≡ None
  pub next : next_txn (Then c m a) ≡ next_txn c
  pub proper : is_proper m ≡ true
  pub answers : IsAnswer smallest_ordered_pivot c m a
