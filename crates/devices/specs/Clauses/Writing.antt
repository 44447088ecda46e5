-- What a call that writes to a device promises.
use Rattle.std.specs.Prelude.{◌≡◌, ℕ, ◌<◌, List, ◌++◌, length, true, Option, Result, MatchResult}
use Rattle.std.specs.Io.KnownBytes.{Appends}
use Rattle.devices.specs.declared.watched.Watched.{Watched}
use Rattle.devices.specs.Mirror.{has_failed, watched_contents}

-- exactly these bytes were appended, and the device has failed exactly if it had before
pub record Grew {D : Type 0} (contents : D → Option (List ℕ)) (old new : Watched D) (bytes : List ℕ) : Type 0 where
  pub appends : Appends (watched_contents contents old) (watched_contents contents new) bytes
  pub works : has_failed new ≡ has_failed old

-- the call wrote exactly these bytes, or it failed, and then so did the device
abbrev pub Wrote : {D T E : Type 0} → (D → Option (List ℕ)) → Watched D → Watched D → List ℕ → Result T E → Type 0
Wrote contents old new bytes result = MatchResult result (λ _. Grew contents old new bytes) (λ _. has_failed new ≡ true)

-- of these bytes a front was appended, which may be empty, and the rest wasn't, which isn't
pub record Broke {D : Type 0} (contents : D → Option (List ℕ)) (old new : Watched D) (bytes : List ℕ) : Type 0 where
  pub front : List ℕ
  pub rest : List ℕ
  pub parts : bytes ≡ front ++ rest
  pub more : 0 < length rest
  pub appends : Appends (watched_contents contents old) (watched_contents contents new) front
