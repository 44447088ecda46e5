use Rattle.std.proofs.Common.{◌≡◌, Bool, List, drop}
use Rattle.std.specs.List.{list_all}
use Rattle.adya_values.specs.declared.seen.Seen.{Seen}
use Rattle.adya_values.specs.Meaning.Histories.{Event}
use Rattle.adya_values.specs.Meaning.Events.{last_write}
use Rattle.adya_values.specs.Mirror.Numbers.{seen_entry}
use Rattle.adya_values.specs.Computing.Faults.{is_none_or}
use Rattle.adya_terms.specs.Machinery.Telling.{Means}
use Rattle.adya_terms.proofs.rules.are_own.Given as goal

abbrev pub invariant-loop-seen : goal.invariant-loop-seen
invariant-loop-seen l =
    (before : List Event) → Means l.tables before →
    let es = l.tables.writes.events.now in
    let test : Seen → Bool = λ s. is_none_or (last_write l.txn (seen_entry es s).version.key before) (seen_entry es s) in
    list_all test l.observed ≡ list_all test (drop l.seen-index l.observed)
