-- What clauses see of a hub.
use Rattle.std.specs.Prelude.{◌≡◌, ◌≢◌, ℕ, Bool, List, Option}
use Rattle.ssi_hub.specs.Clauses.Buffers.{Buffers}
use Rattle.ssi_store.specs.Meaning.Courses.{Course}
use Rattle.ssi_line.specs.Meaning.Steps.{AllMayFollow, course_after}
use Rattle.ssi_hub.specs.Clauses.Calls.{Call, all_steps}
use Rattle.ssi_hub.specs.Clauses.Serving.{StandsFor}
use Rattle.ssi_hub.specs.Machinery.Changes.{buffers_in}
use Rattle.ssi_hub.specs.declared.hub.Hub.{Hub}

-- the buffers of the connection with this token, if it is open
abbrev pub buffers_of : Hub → ℕ → Option Buffers
buffers_of hub t = buffers_in hub.connections t

-- the token of the next connection: tokens are counted up
abbrev pub next_token : Hub → ℕ
next_token hub = hub.next

-- whether `stop` was carried out
abbrev pub is_stopped : Hub → Bool
is_stopped hub = hub.stopped

-- the hub stands for the calls, on a store that keeps its history or doesn't
abbrev pub Stands : (keeps : Bool) → Hub → List Call → Type 0
Stands keeps hub calls = StandsFor keeps (buffers_of hub) (next_token hub) (is_stopped hub) calls

-- the hub stands for the calls, and the store for the course at the start with the steps of all connections, in the order in
-- which they were carried out; each of them may follow those before it
pub record Serves {T : Type 0} (keeps : Bool) (is_at : T → Course → Type 0) (start : Course) (hub : Hub) (store : T) (calls : List Call)
    : Type 0 where
  pub stands : Stands keeps hub calls
  pub follow : AllMayFollow start (all_steps calls)
  pub at : is_at store (course_after start (all_steps calls))

-- everything is as before
pub record IsSame (old new : Hub) : Type 0 where
  pub buffers : (t : ℕ) → buffers_of new t ≡ buffers_of old t
  pub next : next_token new ≡ next_token old
  pub stopped : is_stopped new ≡ is_stopped old

-- the connection has these buffers now, or is gone, and the others have theirs; no connection was opened, and no line
-- carried out
pub record Changed (old new : Hub) (t : ℕ) (now : Option Buffers) : Type 0 where
  pub own : buffers_of new t ≡ now
  pub others : (u : ℕ) → u ≢ t → buffers_of new u ≡ buffers_of old u
  pub next : next_token new ≡ next_token old
  pub stopped : is_stopped new ≡ is_stopped old
