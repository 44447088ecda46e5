use Rattle.std.proofs.Common.{◌≡◌, Bool, not, map, filter, drop}
use Rattle.adya_values.specs.Meaning.Histories.{Entry, Event}
use Rattle.adya_values.specs.Meaning.Events.{txn_of}
use Rattle.adya_values.specs.Mirror.Numbers.{seen_entry}
use Rattle.adya_terms.specs.Machinery.EventIndex.{events_in, indexed, unfinished_in}
use Rattle.adya_terms.specs.Machinery.Reads.{is_good}
use Rattle.adya_terms.proofs.reads.first_bad.Given as goal

abbrev pub invariant-loop-seen : goal.invariant-loop-seen
invariant-loop-seen l =
    (e : Event) → txn_of e ≡ l.txn →
    let entry = seen_entry (events_in l.index) in
    let test : Entry → Bool = λ o. not (is_good l.kind (indexed l.index) (unfinished_in l.index) e o) in
    filter test (map entry l.seen-items) ≡ filter test (map entry (drop l.seen-index l.seen-items))
