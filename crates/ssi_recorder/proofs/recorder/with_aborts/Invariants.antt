use Rattle.std.proofs.Common.{◌≡◌, ◌++◌, ◌-◌, length, take, map}
use Rattle.adya_values.specs.Meaning.Histories.{Abort}
use Rattle.adya_values.specs.Mirror.Events.{events_of, HasRows}
use Rattle.ssi_recorder.proofs.recorder.with_aborts.Given as goal

abbrev pub invariant-active : goal.invariant-active
invariant-active l = record {
  events : events_of l.events ≡ events_of l.fn.events ++ map Abort (take l.txn-index l.active);
  room : HasRows l.events (length l.active - l.txn-index);
}
