-- Up to this place the zeros are written.
use Rattle.std.proofs.Common.{◌≡◌, ◌-◌, ◌<◌, ◌≤◌}
use Rattle.std.specs.Prelude.{IsTrue}
use Rattle.sqlite_disk.specs.Disk.{Follows}
use Rattle.ssi_log.specs.Machinery.Zeros.{HasZeros, IsSameBelow, IsZeroed}
use Rattle.ssi_log.proofs.zeros.write_zeros.Given as goal

abbrev pub invariant-loop-at : goal.invariant-loop-at
invariant-loop-at g l = record {
  behind : l.fn.from ≤ l.at;
  within : l.at ≤ l.fn.to;
  usable : IsTrue (g.D.Disk.is_usable l.disk);
  faults : g.D.Disk.faults l.disk ≡ g.D.Disk.faults l.initial.disk;
  mixing : g.D.Disk.is_mixing l.disk ≡ g.D.Disk.is_mixing l.initial.disk;
  clean : g.D.Disk.is_clean l.disk ≡ g.D.Disk.is_clean l.initial.disk;
  same : IsSameBelow l.fn.from (g.D.Disk.seen l.initial.disk) (g.D.Disk.seen l.disk);
  zeros : l.fn.from < l.at → HasZeros l.fn.from l.at (g.D.Disk.seen l.disk);
  crash : Follows (IsZeroed l.fn.from) (g.D.Disk.may_leave l.initial.disk) (g.D.Disk.may_leave l.disk);
}

abbrev pub decreases-loop-at : goal.decreases-loop-at
decreases-loop-at g l = l.fn.to - l.at
