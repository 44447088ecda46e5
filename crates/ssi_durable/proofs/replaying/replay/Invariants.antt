-- The lines so far lead to the course of the store, if it was new.
use Rattle.std.proofs.Common.{◌≡◌, ◌+◌, ◌≤◌, List, length}
use Rattle.adya_keys.specs.Meaning.Keys.{Bytes}
use Rattle.ssi_store.specs.Meaning.Courses.{Course, New}
use Rattle.ssi_durable.specs.Meaning.Replays.{Replays}
use Rattle.ssi_durable.proofs.Recovering.{IsDone, IsFound}
use Rattle.ssi_durable.proofs.replaying.replay.Given as goal

abbrev pub invariant-loop-line : goal.invariant-loop-line
invariant-loop-line g l = (done : List Bytes) × IsDone l.text done l.rest × (l.lines ≡ length done)
    × (l.lines + length l.rest ≤ length l.text) × IsFound l.text done l.rest l.loaded
    × (g.S.AnyStore.is_at l.fn.store (New 1)
    → (course : Course) × Replays (New 1) done course × g.S.AnyStore.is_at l.store course)

abbrev pub decreases-loop-line : goal.decreases-loop-line
decreases-loop-line g l = length l.rest
