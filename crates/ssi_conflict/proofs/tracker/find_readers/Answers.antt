use Rattle.std.proofs.Common.{arith, ◌==◌}
use Rattle.std.proofs.lemmas.Grind.{common_steps}
use Rattle.std.proofs.lemmas.List.Folds.{list_any-append}
use Rattle.ssi_conflict.proofs.tracker.find_readers.Goals as goal

pub loop-key-preserved : goal.loop-key-preserved
loop-key-preserved g c r =
    let found = c.in_ok-found.ensures.exact r in
    let more = list_any-append (λ u. u == r) c.loop-key.readers.items c.in_ok-found.found.items in
    grind (arith, common_steps, c.loop-key.invariant r, found, more)
