-- Open transactions by session, and when one is that of a log.
use Rattle.std.specs.Prelude.{◌≡◌, ℕ, suc, cond, List, Option, Some}
use Rattle.std.specs.Map.{lookup}
use Rattle.adya_keys.specs.Meaning.Keys.{key_eq}
use Rattle.ssi_snapshot.specs.Clauses.Listings.{keys}
use Rattle.ssi_snapshot.specs.Mirror.{txn_of, snapshot_of, written, own, IsAsBefore}
use Rattle.ssi_store.specs.Meaning.Acts.{Act, operations}
use Rattle.ssi_store.specs.Meaning.Seeing.{snapshot, own_write, own_keys}
use Rattle.ssi_store.specs.declared.open.Open.{Open}

abbrev pub Sessions : Type 0
Sessions = List (List ℕ × Open)

-- the open transaction of the session
abbrev pub open_at : List ℕ → Sessions → Option Open
open_at session es = lookup (key_eq session) es

abbrev pub number_of : Open → ℕ
number_of o = txn_of o.view

-- it is what the log says of the transaction
pub record IsOpen (log : List Act) (o : Open) : Type 0 where
  pub stamp : snapshot_of o.view ≡ snapshot (number_of o) log
  pub count : o.operations ≡ operations (number_of o) log
  pub own : (k : List ℕ) → own k o.view ≡ own_write (number_of o) k log
  pub keys : keys (written o.view) ≡ own_keys (number_of o) log

-- nothing that is seen of it has changed
pub record IsSameOpen (o p : Open) : Type 0 where
  pub view : IsAsBefore o.view p.view
  pub count : p.operations ≡ o.operations

-- it has carried out one more operation, and its view is the same
pub record IsCounted (o p : Open) : Type 0 where
  pub view : p.view ≡ o.view
  pub count : p.operations ≡ suc o.operations

-- the session has this transaction now, and the others have theirs
abbrev pub IsReplaced : List ℕ → Open → Sessions → Sessions → Type 0
IsReplaced s p es fs = (q : List ℕ) → open_at q fs ≡ cond (key_eq s q) (Some p) (open_at q es)

-- the session's transaction has carried out one more operation
abbrev pub AreCounted : List ℕ → Sessions → Sessions → Type 0
AreCounted s es fs = (o : Open) → open_at s es ≡ Some o → (p : Open) × IsCounted o p × IsReplaced s p es fs
