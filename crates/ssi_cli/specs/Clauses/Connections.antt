-- What is promised of connections that are served one after the other.
use Rattle.std.specs.Prelude.{◌≡◌, ◌≢◌, ◌⊎◌, Bool, List, [], ◌∷◌, ◌++◌, length, Option}
use Rattle.adya_keys.specs.Meaning.Keys.{Bytes}
use Rattle.devices.specs.declared.watched.Watched.{Watched}
use Rattle.devices.specs.Mirror.{has_failed}
use Rattle.ssi_line.specs.Meaning.Steps.{Step}
use Rattle.ssi_line.specs.Clauses.Ends.{Took, EndsAs}
use Rattle.ssi_line.specs.declared.end.End.{End}
use Rattle.ssi_line.specs.declared.end.End.TheVariants.{Stop}
use Rattle.ssi_cli.specs.declared.socket.Served.{Served}
use Rattle.ssi_cli.specs.declared.socket.Served.TheVariants.{Stopped, SocketFault}
use Rattle.ssi_cli.specs.Clauses.Scripts.{Shown}

-- a connection that a listener accepted and that was then served and closed: the lines that its client sent made these
-- steps, the texts of the steps are what the client got, and it ended so
pub record Connection {L R W : Type 0} (remaining : R → Option Bytes) (is_failed : R → Bool) (contents : W → Option Bytes)
    (accepts closes : L → R → Watched W → L → Type 0) : Type 0 where
  -- the listener before and after it, and while it was open
  pub before : L
  pub during : L
  pub after : L
  -- what it was read from and written to
  pub reader : R
  pub writer : Watched W
  pub last_reader : R
  pub last_writer : Watched W
  pub lines : List Bytes
  pub steps : List Step
  -- the bytes after the last line
  pub rest : Bytes
  pub end : End
  pub accepted : accepts before reader writer during
  pub took : Took (remaining reader) lines steps rest (remaining last_reader)
  pub ends : EndsAs end contents steps rest (remaining last_reader) writer last_writer
  pub shown : Shown end (is_failed reader) (is_failed last_reader) (has_failed last_writer)
  pub closed : closes during last_reader last_writer after

-- the steps of connections, newest first, in the order in which they were carried out
abbrev pub steps_of : {L R W : Type 0} → {remaining : R → Option Bytes} → {is_failed : R → Bool} → {contents : W → Option Bytes}
    → {accepts closes : L → R → Watched W → L → Type 0}
    → List (Connection remaining is_failed contents accepts closes) → List Step
steps_of [] = []
steps_of (c ∷ cs) = steps_of cs ++ c.steps

-- the listener went from connection to connection, newest first, and did nothing else
abbrev pub Follow : {L R W : Type 0} → {remaining : R → Option Bytes} → {is_failed : R → Bool} → {contents : W → Option Bytes}
    → {accepts closes : L → R → Watched W → L → Type 0}
    → L → List (Connection remaining is_failed contents accepts closes) → L → Type 0
Follow first [] last = last ≡ first
Follow first (c ∷ cs) last = Follow first cs c.before × (last ≡ c.after)

-- none of these connections sent a `stop` whose reply was written
abbrev pub NoneStopped : {L R W : Type 0} → {remaining : R → Option Bytes} → {is_failed : R → Bool}
    → {contents : W → Option Bytes} → {accepts closes : L → R → Watched W → L → Type 0}
    → List (Connection remaining is_failed contents accepts closes) → Type 0
NoneStopped [] = Unit {0}
NoneStopped (c ∷ cs) = (c.end ≢ Stop) × NoneStopped cs

-- the newest connection stopped the run and none before it did; or none did, and then the listener failed or has accepted
-- as many as it may: as it was after the newest connection, and as it is now
abbrev pub EndsBy : {L R W : Type 0} → {remaining : R → Option Bytes} → {is_failed : R → Bool} → {contents : W → Option Bytes}
    → {accepts closes : L → R → Watched W → L → Type 0} → (fails : L → L → Type 0) → Served
    → List (Connection remaining is_failed contents accepts closes) → (after now : L) → Type 0
EndsBy fails Stopped [] after now = ⊥
EndsBy fails Stopped (c ∷ cs) after now = (c.end ≡ Stop) × NoneStopped cs × (now ≡ after)
EndsBy fails SocketFault cs after now = NoneStopped cs × (fails after now ⊎ ((length cs ≡ 4294967295) × (now ≡ after)))

-- a listener's connections were served one after the other, and that ended so
pub record InTurn {L R W : Type 0} (remaining : R → Option Bytes) (is_failed : R → Bool) (contents : W → Option Bytes)
    (accepts closes : L → R → Watched W → L → Type 0) (fails : L → L → Type 0) (old new : L) (served : Served)
    : Type 0 where
  -- newest first
  pub connections : List (Connection remaining is_failed contents accepts closes)
  pub after : L
  pub follow : Follow old connections after
  pub ends : EndsBy fails served connections after new
