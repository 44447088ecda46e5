-- What is done with one connection: the calls of the hub, and what they say of its stream.
use Rattle.std.specs.Prelude.{◌≡◌, ◌<◌, ◌≤◌, ◌⊎◌, ℕ, Bool, true, false, is_some, List, [], ◌∷◌, ◌++◌, length, Option, Some, None, Result, Ok, Err, OnOk}
use Rattle.std.specs.List.{AllByRecursion}
use Rattle.std.specs.Io.KnownBytes.{Consumes, Appends}
use Rattle.adya_keys.specs.Meaning.Keys.{Bytes}
use Rattle.ssi_store.specs.Meaning.Courses.{Course}
use Rattle.ssi_line.specs.Meaning.Steps.{AllGoOn}
use Rattle.ssi_line.specs.Clauses.Ends.{WentOn}
use Rattle.ssi_hub.specs.declared.hub.Hub.{Hub}
use Rattle.ssi_hub.specs.Clauses.Buffers.{Buffers}
use Rattle.ssi_hub.specs.Clauses.Clipping.{clipped, has_line}
use Rattle.ssi_hub.specs.Clauses.Calls.{Call, Received, Ran, Wrote, Closed, is_open, sent_by, lines_of, written_to, all_steps}
use Rattle.ssi_hub.specs.Clauses.Serving.{IsServed}
use Rattle.ssi_hub.specs.Mirror.{Stands, buffers_of, is_stopped}
use Rattle.ssi_cli.specs.declared.closing.Closing.{Closing}
use Rattle.ssi_cli.specs.declared.closing.Closing.TheVariants.{Ended, Broken, Memory, Stopped}
use Rattle.ssi_cli.specs.declared.users.Users.{Users}
use Rattle.ssi_cli.specs.Meaning.Users.{Deed, Called, Aborted, calls_in, last_user}
use Rattle.ssi_cli.specs.Clauses.Leaving.{IsAbort, HasNoted, abort_calls}
use Rattle.ssi_cli.specs.Mirror.{last_at}

-- whatever calls the hub stood for, it stands for these with more, which carry nothing out
abbrev pub Makes : Hub → Hub → (List Call → List Call → Type 0) → Type 0
Makes old new Made = (calls : List Call) → Stands true old calls
    → (made : List Call) × Stands true new (made ++ calls) × (all_steps made ≡ []) × Made calls made

-- more is to be read of a connection that is open: the run goes on, no whole line waits, and at most 65536 bytes are unsent
abbrev pub WantsMore : Bool → Option Buffers → Type 0
WantsMore stopped None = ⊥
WantsMore stopped (Some b) = (stopped ≡ false) × (has_line b.waiting ≡ false) × (length b.unsent ≤ 65536)

-- a line of a connection that is open may be carried out: the run goes on, a whole line waits, and at most 65536 bytes are unsent
abbrev pub MayRun : Bool → Option Buffers → Type 0
MayRun stopped None = ⊥
MayRun stopped (Some b) = (stopped ≡ false) × (has_line b.waiting ≡ true) × (length b.unsent ≤ 65536)

-- nothing is to be done at once: no line may be carried out, and none is to be read if a read may find something
abbrev pub IsIdle : Bool → Bool → Option Buffers → Type 0
IsIdle readable stopped had = (MayRun stopped had → ⊥) × (readable ≡ true → WantsMore stopped had → ⊥)

-- the connection sent something, lines of it were carried out, or something was written to it
abbrev pub IsUseOf : ℕ → Call → Type 0
IsUseOf t (Received u bytes) = u ≡ t
IsUseOf t (Ran u lines steps) = u ≡ t
IsUseOf t (Wrote u bytes) = u ≡ t
IsUseOf t _ = ⊥

-- what was read of the stream is what the connection sent by these calls, and then bytes that were dropped; what was written
-- to the stream is what was written to the connection by them
pub record Exchanged {S : Type 0} (remaining contents : S → Option Bytes) (t : ℕ) (old new : S) (calls : List Call)
    (dropped : Bytes) : Type 0 where
  pub uses : AllByRecursion (IsUseOf t) calls
  pub read : Consumes (remaining old) (remaining new) (sent_by t calls ++ dropped)
  pub written : Appends (contents old) (contents new) (written_to t calls)

-- replies of the connection are unsent
abbrev pub HasUnsent : (keeps : Bool) → ℕ → List Call → Type 0
HasUnsent keeps t calls = (left : Bytes) × (unsent : Bytes) × IsServed keeps t calls left unsent × (0 < length unsent)

-- a whole line of the connection waits
abbrev pub HasWaiting : (keeps : Bool) → ℕ → List Call → Type 0
HasWaiting keeps t calls = (left : Bytes) × (unsent : Bytes) × IsServed keeps t calls left unsent × (has_line (clipped left) ≡ true)

-- all replies of the connection are written, and none of its whole lines waits, unless a line was `stop`
abbrev pub IsFinished : (keeps : Bool) → ℕ → List Call → Type 0
IsFinished keeps t calls =
    (left : Bytes) × IsServed keeps t calls left [] × (AllGoOn (all_steps calls) → has_line (clipped left) ≡ false)

-- why the connection was closed, after the calls `made` and those before them; the bytes `dropped` were read of it, and the hub
-- wasn't given them
abbrev pub IsClosedFor : (keeps : Bool) → ℕ → List Call → List Call → Bytes → Closing → Type 0
IsClosedFor keeps t made before dropped Ended = (dropped ≡ []) × IsFinished keeps t (made ++ before)
IsClosedFor keeps t made before dropped Broken = (dropped ≡ []) × HasUnsent keeps t (made ++ before)
-- for what it sent, or for what it is to get
IsClosedFor keeps t made before dropped Memory =
    (0 < length dropped) ⊎ (HasWaiting keeps t (made ++ before) ⊎ (0 < length (lines_of t made)))
-- no turn closes it for that
IsClosedFor keeps t made before dropped Stopped = ⊥

-- a line of the connection was carried out, or it was closed because memory ran out
abbrev pub HasBegun : {A : Type 0} → ℕ → List Call → Result A Closing → Type 0
HasBegun t made (Ok x) = 0 < length (lines_of t made)
HasBegun t made (Err Memory) = Unit {0}
HasBegun t made (Err why) = 0 < length (lines_of t made)

-- all replies of the connection are written, if it is open
abbrev pub IsAllWritten : (keeps : Bool) → ℕ → List Call → Type 0
IsAllWritten keeps t calls = is_open t calls ≡ true → (left : Bytes) × IsServed keeps t calls left []

-- the same by what the hub has of it
abbrev pub NoneUnsent : Option Buffers → Type 0
NoneUnsent None = Unit {0}
NoneUnsent (Some b) = b.unsent ≡ []

-- it is open, and nothing is unsent
abbrev pub HasAllSent : Option Buffers → Type 0
HasAllSent None = ⊥
HasAllSent (Some b) = b.unsent ≡ []

-- the connection was closed for the reason, or wasn't
abbrev pub IsLeft : {A : Type 0} → (keeps : Bool) → ℕ → List Call → List Call → Bytes → Result A Closing → Type 0
IsLeft keeps t made before dropped (Ok x) = dropped ≡ []
IsLeft keeps t made before dropped (Err why) = IsClosedFor keeps t made before dropped why

-- the calls, and the one that closes the connection if it was closed
abbrev pub with_end : {A : Type 0} → Result A Closing → ℕ → List Call → List Call
with_end (Ok x) t made = made
with_end (Err why) t made = Closed t ∷ made

-- whatever calls the hub stood for, it stands for these with more: the store went through their steps, they say what was read
-- and written of the stream, and the connection was closed for the reason or wasn't. The table has noted them. If `May` holds,
-- then a line was carried out; if `Sure` holds, then all replies are written
abbrev pub Did : {S T A : Type 0} → (S → Option Bytes) → (S → Option Bytes) → (T → Course → Type 0) → ℕ → Type 0 → Type 0
    → Result A Closing → Option Users → Hub → S → T → Option Users → Hub → S → T → Type 0
Did remaining contents is_at t May Sure result was old stream store now new left after =
    (calls : List Call) → Stands true old calls
    → (made : List Call) × (dropped : Bytes) × Stands true new (with_end result t made ++ calls)
    × WentOn is_at store (all_steps made) after × Exchanged remaining contents t stream left made dropped
    × IsLeft true t made calls dropped result × HasNoted was now made
    × (May → HasBegun t made result) × (Sure → OnOk result (IsAllWritten true t (made ++ calls)))

-- lines of the connection were carried out
abbrev pub IsRunOf : ℕ → Call → Type 0
IsRunOf t (Ran u lines steps) = u ≡ t
IsRunOf t _ = ⊥

-- the same of calls that carry out lines of the connection, and that its stream has no part in
abbrev pub Carried : {T A : Type 0} → (T → Course → Type 0) → ℕ → Type 0 → Result A Closing
    → Option Users → Hub → T → Option Users → Hub → T → Type 0
Carried is_at t May result was old store now new after = (calls : List Call) → Stands true old calls
    → (made : List Call) × Stands true new (with_end result t made ++ calls) × WentOn is_at store (all_steps made) after
    × AllByRecursion (IsRunOf t) made × IsLeft true t made calls [] result × HasNoted was now made
    × (May → HasBegun t made result)

-- the calls of a connection, after these deeds
abbrev pub called : List Call → List Deed → List Deed
called [] deeds = deeds
called (c ∷ calls) deeds = Called c ∷ called calls deeds

-- these aborts, after these deeds
abbrev pub aborted : List (Bytes × List Call) → List Deed → List Deed
aborted [] deeds = deeds
aborted (a ∷ rest) deeds = Aborted a.0 a.1 ∷ aborted rest deeds

-- each abort is of a session whose last user is gone
abbrev pub AreDue : List Deed → Type 0
AreDue [] = Unit {0}
AreDue (Called c ∷ deeds) = AreDue deeds
AreDue (Aborted s calls ∷ deeds) = IsAbort s calls (calls_in deeds)
    × ((t : ℕ) × (last_user s deeds ≡ Some t) × (is_open t (calls_in deeds) ≡ false)) × AreDue deeds

-- it is a call of a connection
abbrev pub IsCalled : Deed → Type 0
IsCalled (Called c) = Unit {0}
IsCalled (Aborted s calls) = ⊥

-- the hub stands for the calls of these deeds; each abort is of a session whose last user is gone, and without a table there is
-- none; and whom the table has as the last user of a session, that is the last user
pub record AreDone (keeps : Bool) (users : Option Users) (hub : Hub) (deeds : List Deed) : Type 0 where
  pub stands : Stands keeps hub (calls_in deeds)
  pub due : AreDue deeds
  pub none : is_some users ≡ false → AllByRecursion IsCalled deeds
  pub known : (s : Bytes) (t : ℕ) → last_at users s ≡ Some t → last_user s deeds ≡ Some t

-- what a turn of the connection does: calls of the connection, as above, and then aborts, if it is gone. A line is carried
-- out, if one may be at first; and all replies are written, if `Sure` holds
abbrev pub Turned : {S T A : Type 0} → (S → Option Bytes) → (S → Option Bytes) → (T → Course → Type 0) → ℕ → Type 0
    → Result A Closing → Option Users → Hub → S → T → Option Users → Hub → S → T → Type 0
Turned remaining contents is_at t Sure result was old stream store now new left after =
    (deeds : List Deed) → AreDone true was old deeds
    → (made : List Call) × (dropped : Bytes) × (aborts : List (Bytes × List Call))
    × AreDone true now new (aborted aborts (called (with_end result t made) deeds))
    × WentOn is_at store (all_steps made ++ all_steps (abort_calls aborts)) after
    × Exchanged remaining contents t stream left made dropped
    × IsLeft true t made (calls_in deeds) dropped result
    × (MayRun (is_stopped old) (buffers_of old t) → HasBegun t made result)
    × (Sure → OnOk result (IsAllWritten true t (made ++ calls_in deeds)))
