use Rattle.std.proofs.Common.{◌≡◌, All, take}
use Rattle.adya_keys.specs.Meaning.Keys.{IsTxn}
use Rattle.adya_values.specs.Mirror.Events.{events_of}
use Rattle.adya_dsg.specs.Machinery.Nodes.{committed}
use Rattle.adya_dsg.proofs.nodes.committed.Given as goal

abbrev pub invariant-loop-i : goal.invariant-loop-i
invariant-loop-i l = record {
  value : l.nodes.items ≡ committed (take l.i (events_of l.events));
  numbers : All IsTxn l.nodes.items;
}
