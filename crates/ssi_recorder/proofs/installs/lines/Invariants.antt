use Rattle.std.proofs.Common.{◌≡◌, ℕ, List, take, slice_get}
use Rattle.adya_values.specs.Mirror.Events.{events_of}
use Rattle.ssi_recorder.specs.Machinery.Lines.{put_at, write_by, AreLines}
use Rattle.ssi_recorder.proofs.installs.lines.Given as goal

abbrev pub invariant-events : goal.invariant-events
invariant-events l = record {
  lines : (q : List ℕ) (r : ℕ) → put_at q r l.lines.entries ≡ write_by (slice_get l.committed.keys r) q (take l.i (events_of l.events));
  good : AreLines l.lines.entries;
}
