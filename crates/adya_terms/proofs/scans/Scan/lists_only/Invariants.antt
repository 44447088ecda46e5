use Rattle.std.proofs.Common.{◌≡◌, ◌&&◌, ◌||◌, Some, map, drop}
use Rattle.std.specs.List.{list_all, list_any}
use Rattle.adya_values.specs.Meaning.Histories.{Entry}
use Rattle.adya_values.specs.Mirror.Events.{events_of}
use Rattle.adya_values.specs.Mirror.Numbers.{keys_of, seen_entry}
use Rattle.adya_keys.specs.Machinery.Within.{key_at}
use Rattle.adya_values.specs.Computing.Faults.{entry_eq, lists_only}
use Rattle.adya_terms.specs.Machinery.Checks.{is_of_key}
use Rattle.adya_terms.specs.Machinery.Tables.{written_at}
use Rattle.adya_terms.proofs.scans.Scan.lists_only.Given as goal

-- what is left says the rest
abbrev pub invariant-loop-seen : goal.invariant-loop-seen
invariant-loop-seen l =
    let es = l.self.events.now in
    (w : Entry) → written_at (events_of es) (Some l.at) ≡ Some w → w.version.key ≡ key_at (keys_of es) l.number →
    let left = map (seen_entry es) (drop l.seen-index l.seen-items) in
    lists_only (map (seen_entry es) l.seen-items) w ≡ ((l.found || list_any (entry_eq w) left) && list_all (is_of_key w) left)
