use Rattle.std.proofs.Common.{◌≡◌, ◌+◌, [], take, drop}
use Rattle.adya_values.specs.Mirror.Events.{events_of}
use Rattle.adya_values.specs.Computing.Faults.{event_faults}
use Rattle.adya_terms.specs.Machinery.Telling.{Means}
use Rattle.adya_terms.specs.Machinery.NewestWrites.{Keeps}
use Rattle.adya_terms.proofs.rules.tables_of.Given as goal

abbrev pub invariant-loop-i : goal.invariant-loop-i
invariant-loop-i l =
    let all = events_of l.events in
    record {
      same : l.tables.writes.events.now ≡ l.events;
      means : Means l.tables (take l.i all);
      newest : Keeps l.newest all (take l.i all);
      faults : event_faults [] 2 all ≡ event_faults (take l.i all) (2 + l.i) (drop l.i all);
    }
