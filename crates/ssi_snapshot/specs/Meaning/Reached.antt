-- How far a limited scan has looked.
use Rattle.std.specs.Prelude.{ℕ, ◌==◌, if◌then◌else◌, List, length, Option, Some, None}
use Rattle.adya_keys.specs.Meaning.Keys.{Key}
use Rattle.adya_values.specs.Meaning.Histories.{FinalPair}
use Rattle.adya_values.specs.Meaning.Events.{last}

abbrev pub key_or : Key → Option FinalPair → Key
key_or high None = high
key_or high (Some p) = p.key

-- a scan limited to n visible pairs that found these looked to the last of them if it found n, and else to the end of
-- its range
abbrev pub reached : Key → ℕ → List FinalPair → Key
reached high n ps = if length ps == n then key_or high (last ps) else high
