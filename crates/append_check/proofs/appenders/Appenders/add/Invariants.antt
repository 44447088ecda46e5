use Rattle.std.proofs.Common.{map, take}
use Rattle.std.specs.HashMap.{get}
use Rattle.append_values.specs.Meaning.Histories.{operation_of}
use Rattle.append_check.specs.Machinery.Appending.{item_eq, Adds}
use Rattle.append_check.proofs.appenders.Appenders.add.Given as goal

abbrev pub invariant-steps : goal.invariant-steps
invariant-steps l = Adds (get item_eq l.fn.self.by_item) (get item_eq l.self.by_item) l.place (take l.operation-index (map operation_of l.operations))
