use Rattle.std.specs.HashMap.{get}
use Rattle.append_check.specs.Meaning.Verdicts.{history_of}
use Rattle.append_check.specs.Machinery.Appending.{item_eq, Tells}
use Rattle.append_check.proofs.appenders.Appenders.of.Given as goal

abbrev pub invariant-transactions : goal.invariant-transactions
invariant-transactions l = Tells (get item_eq l.table.by_item) (history_of l.transactions) l.place
