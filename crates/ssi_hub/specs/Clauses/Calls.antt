-- The calls of a hub, and what they say of each connection. The newest call stands first, so that the tail of a list is
-- what was before.
use Rattle.std.specs.Prelude.{ℕ, ◌==◌, Bool, false, not, ◌&&◌, ◌||◌, if◌then◌else◌, List, [], ◌∷◌, ◌++◌}
use Rattle.adya_keys.specs.Meaning.Keys.{Bytes}
use Rattle.ssi_line.specs.Meaning.Steps.{Step}

pub data Call : Type 0 where
  -- a connection was opened, and got this token
  Opened : (token : ℕ) → Call
  -- it sent these bytes
  Received : (token : ℕ) (bytes : Bytes) → Call
  -- these lines of it were carried out, and made these steps
  Ran : (token : ℕ) (lines : List Bytes) (steps : List Step) → Call
  -- these bytes were written to it
  Wrote : (token : ℕ) (bytes : Bytes) → Call
  -- it is gone
  Closed : (token : ℕ) → Call

abbrev pub token_of : Call → ℕ
token_of (Opened t) = t
token_of (Received t bytes) = t
token_of (Ran t lines steps) = t
token_of (Wrote t bytes) = t
token_of (Closed t) = t

-- the connection was opened, and is not gone
abbrev pub is_open : ℕ → List Call → Bool
is_open t [] = false
is_open t (Opened u ∷ calls) = (u == t) || is_open t calls
is_open t (Closed u ∷ calls) = not (u == t) && is_open t calls
is_open t (_ ∷ calls) = is_open t calls

-- all bytes that it sent
abbrev pub sent_by : ℕ → List Call → Bytes
sent_by t [] = []
sent_by t (Received u bytes ∷ calls) = if u == t then sent_by t calls ++ bytes else sent_by t calls
sent_by t (_ ∷ calls) = sent_by t calls

-- its lines that were carried out
abbrev pub lines_of : ℕ → List Call → List Bytes
lines_of t [] = []
lines_of t (Ran u lines steps ∷ calls) = if u == t then lines_of t calls ++ lines else lines_of t calls
lines_of t (_ ∷ calls) = lines_of t calls

-- their steps
abbrev pub steps_of : ℕ → List Call → List Step
steps_of t [] = []
steps_of t (Ran u lines steps ∷ calls) = if u == t then steps_of t calls ++ steps else steps_of t calls
steps_of t (_ ∷ calls) = steps_of t calls

-- all bytes that were written to it
abbrev pub written_to : ℕ → List Call → Bytes
written_to t [] = []
written_to t (Wrote u bytes ∷ calls) = if u == t then written_to t calls ++ bytes else written_to t calls
written_to t (_ ∷ calls) = written_to t calls

-- the steps of all connections, in the order in which they were carried out
abbrev pub all_steps : List Call → List Step
all_steps [] = []
all_steps (Ran u lines steps ∷ calls) = all_steps calls ++ steps
all_steps (_ ∷ calls) = all_steps calls

-- the calls with one more: a call with a token that no open connection has does nothing
abbrev pub with_call : Call → List Call → List Call
with_call c calls = if is_open (token_of c) calls then c ∷ calls else calls

-- the calls with a run of lines of the connection, which is then closed if its last reply is lost
abbrev pub with_run : Bool → ℕ → List Bytes → List Step → List Call → List Call
with_run lost t lines steps calls =
    if lost then with_call (Closed t) (with_call (Ran t lines steps) calls) else with_call (Ran t lines steps) calls
