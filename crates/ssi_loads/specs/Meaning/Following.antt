-- Why it isn't known how the next segment begins.
use Rattle.std.specs.Prelude.{ℕ, List}
use Rattle.adya_keys.specs.Meaning.Keys.{Bytes}
use Rattle.ssi_durable.specs.Clauses.Recovery.{ReplayFails}
use Rattle.ssi_loads.specs.declared.following.FollowFault.{FollowFault}
use Rattle.ssi_loads.specs.declared.following.FollowFault.TheVariants.{Replay, Memory}

-- these lines of segment n can't be carried out, for this reason, or memory ran out after them
abbrev pub FollowFails : ℕ → List Bytes → FollowFault → Type 0
FollowFails n lines (Replay fault) = ReplayFails n lines fault
FollowFails n lines Memory = Unit {0}
