-- What a clause reads of a `Watched`.
use Rattle.std.specs.Prelude.{ℕ, List, Bool, Option}
use Rattle.devices.specs.declared.watched.Watched.{Watched}

-- `w.failed()`
abbrev pub has_failed : {D : Type 0} → Watched D → Bool
has_failed w = w.is_failed

-- how many reads are passed on before the bound is met
abbrev pub reads_left : {D : Type 0} → Watched D → ℕ
reads_left w = w.left

-- `w.into_inner()`
abbrev pub device_of : {D : Type 0} → Watched D → D
device_of w = w.device

-- the bytes that the device has left, if they are known
abbrev pub watched_remaining : {D : Type 0} → (D → Option (List ℕ)) → Watched D → Option (List ℕ)
watched_remaining remaining w = remaining w.device

-- the bytes that the device holds, if they are known
abbrev pub watched_contents : {D : Type 0} → (D → Option (List ℕ)) → Watched D → Option (List ℕ)
watched_contents contents w = contents w.device
