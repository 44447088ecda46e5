-- Which connection has used a session last.
use Rattle.std.specs.Prelude.{ℕ, Bool, false, if◌then◌else◌, List, [], ◌∷◌, ◌++◌, nat_eq, Option, Some, None}
use Rattle.std.specs.List.{list_any}
use Rattle.std.specs.Cmp.Lexicographic.{pointwise}
use Rattle.adya_keys.specs.Meaning.Keys.{Bytes}
use Rattle.ssi_store.specs.Meaning.Courses.{Command, Begin, Get, Put, Del, Scan, ScanFirst, Commit, Abort, Collect, Stat}
use Rattle.ssi_line.specs.Meaning.Steps.{Step, Given}
use Rattle.ssi_hub.specs.Clauses.Calls.{Call, Ran}

-- the session that a command is of, if it is of one
abbrev pub session_of : Command → Option Bytes
session_of (Begin s) = Some s
session_of (Get s k) = Some s
session_of (Put s k v) = Some s
session_of (Del s k) = Some s
session_of (Scan s low high) = Some s
session_of (ScanFirst s low high n) = Some s
session_of (Commit s) = Some s
session_of (Abort s) = Some s
session_of Collect = None
session_of Stat = None

-- the session that a line was a command of, by the step that it made
abbrev pub session_in : Step → Option Bytes
session_in (Given c a) = session_of c
session_in _ = None

-- it is this session
abbrev pub is_it : Bytes → Option Bytes → Bool
is_it s None = false
is_it s (Some u) = pointwise nat_eq u s

-- one of the steps is a command of the session
abbrev pub is_used : Bytes → List Step → Bool
is_used s steps = list_any (λ step. is_it s (session_in step)) steps

-- the connection that has used the session last after this call, if that one had before
abbrev pub last_by : Bytes → Call → Option ℕ → Option ℕ
last_by s (Ran t lines steps) was = if is_used s steps then Some t else was
last_by s _ was = was

-- the same after these calls, the newest of which stands first
abbrev pub last_after : Bytes → List Call → Option ℕ → Option ℕ
last_after s [] was = was
last_after s (c ∷ calls) was = last_by s c (last_after s calls was)

-- what is done while connections are served
pub data Deed : Type 0 where
  -- a call of a connection
  Called : (call : Call) → Deed
  -- the session was aborted, by the calls of a connection that was made for this
  Aborted : (session : Bytes) (calls : List Call) → Deed

-- the calls of these deeds; of both the newest stand first
abbrev pub calls_in : List Deed → List Call
calls_in [] = []
calls_in (Called c ∷ deeds) = c ∷ calls_in deeds
calls_in (Aborted s calls ∷ deeds) = calls ++ calls_in deeds

-- the connection that has sent the last command of the session, if one has sent any
abbrev pub last_user : Bytes → List Deed → Option ℕ
last_user s [] = None
last_user s (Called c ∷ deeds) = last_by s c (last_user s deeds)
last_user s (Aborted u calls ∷ deeds) = last_user s deeds
