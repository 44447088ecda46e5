-- What a scan lists: entries by rising key.
use Rattle.std.specs.Prelude.{◌≡◌, ℕ, zero, suc, true, if◌then◌else◌, List, [], ◌∷◌, map, Option, None, is_some}
use Rattle.adya_keys.specs.Meaning.Keys.{Key, keys_rise, lies_in}
use Rattle.adya_values.specs.Meaning.Histories.{Entry}
use Rattle.adya_values.specs.Meaning.Events.{listed, visible}

-- the keys of the entries
abbrev pub keys : List Entry → List Key
keys ws = map (λ w. w.version.key) ws

-- what is shown of the keys from low to high, both included, and nothing of the others
abbrev pub within : Key → Key → (Key → Option Entry) → Key → Option Entry
within low high shows key = if lies_in low high key then shows key else None

-- the list has exactly what is shown of each key, by rising key
pub record IsListing (shows : Key → Option Entry) (ws : List Entry) : Type 0 where
  pub rising : keys_rise (keys ws) ≡ true
  pub each : (key : Key) → listed key ws ≡ shows key

-- the entries up to the nth visible one and with it, or all if fewer are visible
abbrev pub up_to : ℕ → List Entry → List Entry
up_to zero ws = []
up_to (suc n) [] = []
up_to (suc n) (w ∷ ws) = w ∷ (if is_some (visible w.content) then up_to n ws else up_to (suc n) ws)
