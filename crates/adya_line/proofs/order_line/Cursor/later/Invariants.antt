use Rattle.std.proofs.Common.{[], ◌∷◌, length}
use Rattle.adya_line.specs.Computing.Reading.{with_front, later_at}
use Rattle.adya_line.proofs.Orders.{IsOn}
use Rattle.adya_line.proofs.order_line.Cursor.later.Given as goal

abbrev pub invariant-later : goal.invariant-later
invariant-later l =
    let bytes = l.initial.self.rest.now in
    IsOn l.writers.items l.self.rest.now (with_front (l.fn.first ∷ []) (later_at (length bytes) bytes))

abbrev pub decreases-later : goal.decreases-later
decreases-later l = length l.self.rest.now
