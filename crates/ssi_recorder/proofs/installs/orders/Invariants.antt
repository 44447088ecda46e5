use Rattle.std.proofs.Common.{◌≡◌, ◌++◌, map}
use Rattle.adya_values.specs.Mirror.Lines.{orders_of}
use Rattle.ssi_recorder.specs.Machinery.Lines.{order_in}
use Rattle.ssi_recorder.proofs.installs.orders.Given as goal

abbrev pub invariant-lines : goal.invariant-lines
invariant-lines l = orders_of l.orders ++ map order_in l.key-iterator ≡ map order_in l.lines.entries
