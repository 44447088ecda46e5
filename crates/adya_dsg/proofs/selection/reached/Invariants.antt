use Rattle.std.proofs.Common.{◌≡◌, ◌<◌, ◌≤◌, ℕ, map, drop, length}
use Rattle.adya_values.specs.Meaning.Events.{listed}
use Rattle.adya_dsg.specs.Machinery.VersionOrders.{ordered_history, ordered_entry}
use Rattle.adya_dsg.specs.Machinery.Choices.{key_at}
use Rattle.adya_dsg.proofs.selection.reached.Given as goal

abbrev pub invariant-loop-at : goal.invariant-loop-at
invariant-loop-at l =
    let h = ordered_history l.versions in
    let w = ordered_entry l.versions in
    (i : ℕ) → l.line ≤ i → i < length h.orders
    → listed (key_at h i) (map w (drop l.at l.seen)) ≡ listed (key_at h i) (map w (drop l.from l.seen))
