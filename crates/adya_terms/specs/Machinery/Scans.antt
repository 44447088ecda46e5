-- What a scan lists.
use Rattle.std.specs.Prelude.{List, get_or, map}
use Rattle.adya_values.specs.declared.seen.Seen.{Seen}
use Rattle.adya_keys.specs.Meaning.Keys.{Key}
use Rattle.adya_values.specs.Meaning.Histories.{Entry}
use Rattle.adya_values.specs.Mirror.Numbers.{keys_of, seen_entry}
use Rattle.adya_terms.specs.declared.scans.Scan.{Scan}

-- the entries
abbrev pub listed : Scan → List Entry
listed s = map (seen_entry s.events.now) s.seen.now

-- the key of an entry; the lower bound if its number is none
abbrev pub key_seen : Scan → Seen → Key
key_seen s x = get_or (keys_of s.events.now) x.key s.low
