use Rattle.std.proofs.Common.{◌≡◌, Bool, List, drop}
use Rattle.std.specs.List.{filter_map, list_all, list_any}
use Rattle.adya_values.specs.declared.seen.Seen.{Seen}
use Rattle.adya_values.specs.Meaning.Histories.{Event}
use Rattle.adya_values.specs.Meaning.Events.{written}
use Rattle.adya_values.specs.Mirror.Numbers.{seen_entry}
use Rattle.adya_values.specs.Computing.Faults.{entry_eq}
use Rattle.adya_terms.specs.Machinery.NewestWrites.{Keeps}
use Rattle.adya_terms.specs.Machinery.Telling.{told, Means}
use Rattle.adya_terms.proofs.rules.was_written.Given as goal

abbrev pub invariant-loop-seen : goal.invariant-loop-seen
invariant-loop-seen l =
    (before : List Event) → Means l.tables before → Keeps l.newest (told l.tables) before →
    let test : Seen → Bool = λ s. list_any (entry_eq (seen_entry l.tables.writes.events.now s)) (filter_map written before) in
    list_all test l.seen-items ≡ list_all test (drop l.seen-index l.seen-items)
