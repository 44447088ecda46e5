use Rattle.std.proofs.Common.{◌≡◌, ◌∙◌, ℕ, List, ap, length, subst, is_none}
use Rattle.adya_terms.proofs.Parts.{found_whole, faultless_whole}
use Rattle.adya_terms.proofs.Judged.{refused_when_found}
use Rattle.adya_keys.specs.Machinery.Indices.{indices_in}
use Rattle.adya_values.specs.Mirror.Events.{events_of}
use Rattle.adya_values.specs.Mirror.Lines.{finals_of, orders_of}
use Rattle.adya_values.specs.Mirror.Histories.{history_of}
use Rattle.adya_values.specs.Meaning.Events.{last_write}
use Rattle.adya_values.specs.Meaning.Histories.{Order}
use Rattle.adya_values.specs.Mirror.Numbers.{keys_of}
use Rattle.adya_terms.specs.Mirror.LineNumbers.{FindsLines}
use Rattle.adya_terms.specs.Machinery.Tables.{own, written_at, KnowsCommitted}
use Rattle.adya_terms.specs.Machinery.EventIndex.{indexed, last_in}
use Rattle.adya_terms.specs.Machinery.Places.{AreWrites}
use Rattle.adya_terms.proofs.InstalledWrites.{installed_if_last}
use Rattle.adya_terms.proofs.checked.Checked.of.Goals as goal

pub returns-in-Err-clause-found : goal.returns-in-Err-clause-found
returns-in-Err-clause-found c =
    found_whole c.args.history.now (events_of c.events-events.result.now) c.unfinished.result.now (orders_of c.orders.result.now) (finals_of c.finals.result.now)
    c.events-events.ensures c.unfinished.ensures.value (ap orders_of c.orders.ensures.value) (ap finals_of c.finals.ensures) c.in-Err.fault c.in-Err.ensures.faults

pub invariant_of-result : goal.invariant_of-result
invariant_of-result c =
    let none = faultless_whole c.args.history.now (events_of c.events-events.result.now) c.unfinished.result.now (orders_of c.orders.result.now) (finals_of c.finals.result.now)
    c.events-events.ensures c.unfinished.ensures.value (ap orders_of c.orders.ensures.value) (ap finals_of c.finals.ensures) c.in-Ok.ensures.faults in
    let h = history_of c.args.history.now in
    let same : indexed c.in-Ok.index ≡ h.events = ap events_of c.in-Ok.ensures.events ∙ c.events-events.ensures in
    record {
      checked = ap is_none none;
      commits = subst (KnowsCommitted c.into_ended.result) same c.into_ended.ensures;
      written =
          installed_if_last (last_in c.in-Ok.index) h.events
          (subst (λ all. (t : ℕ) (k : List ℕ) → written_at all (last_in c.in-Ok.index (own t k)) ≡ last_write t k all) same
          c.in-Ok.index.tell.last_is)
          c.in-Ok.placed.lines h.orders
          (subst (AreWrites (last_in c.in-Ok.index) c.in-Ok.placed.lines) (ap orders_of c.orders.ensures.value) c.in-Ok.ensures.lines);
      listed = c.events-events.ensures;
      found =
          subst (λ (os : List Order). FindsLines (indices_in c.in-Ok.placed.numbers) (keys_of c.events-events.result.now) os (length os)) (ap orders_of c.orders.ensures.value)
          c.in-Ok.ensures.numbers;
    }

pub returns-in-Ok-clause-checked : goal.returns-in-Ok-clause-checked
returns-in-Ok-clause-checked c =
    c.checked_iff_no_fault.ensures.sound (history_of c.args.history.now)
    (faultless_whole c.args.history.now (events_of c.events-events.result.now) c.unfinished.result.now (orders_of c.orders.result.now) (finals_of c.finals.result.now)
    c.events-events.ensures c.unfinished.ensures.value (ap orders_of c.orders.ensures.value) (ap finals_of c.finals.ensures) c.in-Ok.ensures.faults)

pub returns-in-Err-clause-refused : goal.returns-in-Err-clause-refused
returns-in-Err-clause-refused c =
    refused_when_found c.checked_iff_no_fault.ensures.exact (history_of c.args.history.now) c.args.history.now.shape c.in-Err.fault
    (found_whole c.args.history.now (events_of c.events-events.result.now) c.unfinished.result.now (orders_of c.orders.result.now) (finals_of c.finals.result.now)
    c.events-events.ensures c.unfinished.ensures.value (ap orders_of c.orders.ensures.value) (ap finals_of c.finals.ensures) c.in-Err.fault c.in-Err.ensures.faults)

pub returns-in-Ok-clause-found : goal.returns-in-Ok-clause-found
returns-in-Ok-clause-found c =
    faultless_whole c.args.history.now (events_of c.events-events.result.now) c.unfinished.result.now (orders_of c.orders.result.now) (finals_of c.finals.result.now)
    c.events-events.ensures c.unfinished.ensures.value (ap orders_of c.orders.ensures.value) (ap finals_of c.finals.ensures) c.in-Ok.ensures.faults
