-- What calls of a server leave.
use Rattle.std.specs.Prelude.{Bool, false, ◌≡◌, ◌<◌, ◌⊎◌, ℕ, List, [], ◌∷◌, ◌++◌}
use Rattle.std.specs.List.{AllByRecursion}
use Rattle.sqlite_disk.specs.declared.Disk.{Ghosts}
use Rattle.adya_keys.specs.Meaning.Keys.{Bytes}
use Rattle.ssi_store.specs.Meaning.Courses.{Course, Collect}
use Rattle.ssi_line.specs.Meaning.Spelling.{command_text}
use Rattle.ssi_hub.specs.Clauses.Calls.{Call, all_steps, is_open, sent_by, token_of}
use Rattle.ssi_durable.specs.declared.server.Server.{Server}
use Rattle.ssi_durable.specs.Clauses.Serving.{Began}
use Rattle.ssi_durable.specs.Mirror.Servers.{Serves}

-- the calls are those of a connection of their own: it has a new token, sends these bytes, or nothing, and is closed at the end
pub record IsOwn (bytes : Bytes) (calls before : List Call) : Type 0 where
  pub token : ℕ
  pub new : AllByRecursion (λ c. token_of c < token) before
  pub own : AllByRecursion (λ c. token_of c ≡ token) calls
  pub sent : (sent_by token calls ≡ []) ⊎ (sent_by token calls ≡ bytes)
  pub gone : is_open token calls ≡ false

-- it sends the line `collect`, or nothing
abbrev pub IsCollection : List Call → List Call → Type 0
IsCollection calls before = IsOwn (command_text Collect ++ (10 ∷ [])) calls before

module _ {T D : Type 0} {disk : Ghosts D} (dumps : Bool) (is_at : T → Course → Type 0)
    (old new : Server T D disk) where
  -- whatever the server has begun with, and whatever calls it served, it serves these with more
  abbrev pub ServesOn : Type 0
  ServesOn = (n : ℕ) (began : Began) (calls : List Call) → Serves dumps is_at n began old calls
      → (made : List Call) × Serves dumps is_at n began new (made ++ calls)

  -- the same, and `Made` holds of the calls before and of these
  abbrev pub Makes : (List Call → List Call → Type 0) → Type 0
  Makes Made = (n : ℕ) (began : Began) (calls : List Call) → Serves dumps is_at n began old calls
      → (made : List Call) × Serves dumps is_at n began new (made ++ calls) × Made calls made

  -- the same, and no line is carried out by them
  abbrev pub MakesQuietly : (List Call → List Call → Type 0) → Type 0
  MakesQuietly Made = (n : ℕ) (began : Began) (calls : List Call) → Serves dumps is_at n began old calls
      → (made : List Call) × Serves dumps is_at n began new (made ++ calls) × (all_steps made ≡ []) × Made calls made
