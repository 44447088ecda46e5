-- What becomes of the sessions of a connection that is closed.
use Rattle.std.specs.Prelude.{true, ◌≡◌, ◌<◌, ◌⊎◌, ℕ, List, [], ◌∷◌, ◌++◌, Option, Some}
use Rattle.std.specs.List.{AllByRecursion}
use Rattle.adya_keys.specs.Meaning.Keys.{Bytes}
use Rattle.ssi_store.specs.Meaning.Courses.{Course, Abort}
use Rattle.ssi_line.specs.Meaning.Spelling.{command_text}
use Rattle.ssi_line.specs.Clauses.Ends.{WentOn}
use Rattle.ssi_hub.specs.declared.hub.Hub.{Hub}
use Rattle.ssi_hub.specs.Clauses.Calls.{Call, token_of, sent_by, all_steps}
use Rattle.ssi_hub.specs.Mirror.{Stands}
use Rattle.ssi_cli.specs.declared.users.Users.{Users}
use Rattle.ssi_cli.specs.Meaning.Users.{last_after}
use Rattle.ssi_cli.specs.Mirror.{last_at}

-- the calls are those of a connection of their own: it has a new token, and sends the line `abort` of the session, or nothing
pub record IsAbort (session : Bytes) (calls before : List Call) : Type 0 where
  pub token : ℕ
  pub new : AllByRecursion (λ c. token_of c < token) before
  pub own : AllByRecursion (λ c. token_of c ≡ token) calls
  pub sent : (sent_by token calls ≡ []) ⊎ (sent_by token calls ≡ command_text (Abort session) ++ (10 ∷ []))

-- the calls of these aborts, each beside its session; the newest stand first
abbrev pub abort_calls : List (Bytes × List Call) → List Call
abort_calls [] = []
abort_calls (a ∷ rest) = a.1 ++ abort_calls rest

-- each is the abort of a session that may be aborted
abbrev pub AreAborts : (Bytes → Type 0) → List (Bytes × List Call) → List Call → Type 0
AreAborts May [] before = Unit {0}
AreAborts May (a ∷ rest) before = May a.0 × IsAbort a.0 a.1 (abort_calls rest ++ before) × AreAborts May rest before

-- sessions that may be were aborted, and nothing else was done
abbrev pub HasAborted : {T : Type 0} → (T → Course → Type 0) → (Bytes → Type 0) → Hub → T → Hub → T → Type 0
HasAborted is_at May old store new after =
    (calls : List Call) → Stands true old calls
    → (aborts : List (Bytes × List Call)) × Stands true new (abort_calls aborts ++ calls)
    × WentOn is_at store (all_steps (abort_calls aborts)) after × AreAborts May aborts calls

-- the connection is the last user of the session, as far as the table knows
abbrev pub HasUsed : Option Users → ℕ → Bytes → Type 0
HasUsed users t s = last_at users s ≡ Some t

-- each session has the user that it had, or none
abbrev pub HasForgotten : Option Users → Option Users → Type 0
HasForgotten old new = (s : Bytes) (t : ℕ) → last_at new s ≡ Some t → last_at old s ≡ Some t

-- each session has the user that it had, or the one that has used it last by these calls; or none
abbrev pub HasNoted : Option Users → Option Users → List Call → Type 0
HasNoted old new calls = (s : Bytes) (t : ℕ) → last_at new s ≡ Some t → last_after s calls (last_at old s) ≡ Some t
