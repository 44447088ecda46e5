-- What is left to read.
use Rattle.std.specs.Prelude.{◌≡◌, ℕ, ◌+◌, ◌*◌, List, length, None}
use Rattle.edn.specs.declared.token.Beyond.{Beyond}
use Rattle.edn.specs.declared.token.Beyond.TheVariants.{Unread, Nothing}
use Rattle.edn.specs.Computing.Gaps.{after_gap_in}
use Rattle.edn.specs.Computing.Tokens.{BeginsComment}

-- falls with each token, since a read brings at most 8192 bytes: from the reads left, and the bytes pending
abbrev pub work_left : ℕ → List ℕ → ℕ
work_left reads pending = reads * 8193 + length pending

-- 1 until the end of the text was met
abbrev pub to_meet : Beyond → ℕ
to_meet Unread = 1
to_meet Nothing = 0

-- the end of the text was met, and no token is pending
abbrev pub IsSpent : Beyond → List ℕ → Type 0
IsSpent beyond pending = (beyond ≡ Nothing) × (after_gap_in None pending ≡ pending) × BeginsComment pending
