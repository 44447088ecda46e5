-- The file begins with the text so far, which has no zero, and nothing has failed.
use Rattle.std.proofs.Common.{◌-◌, ◌≡◌, ◌≤◌, ℕ, List, length}
use Rattle.std.specs.Prelude.{IsTrue}
use Rattle.ssi_log.specs.Meaning.Texts.{HasNoZero}
use Rattle.ssi_log.specs.Machinery.Pieces.{BeginsWith}
use Rattle.ssi_log.proofs.piece.read_text.Given as goal

abbrev pub invariant-loop-at : goal.invariant-loop-at
invariant-loop-at g l = record {
  usable : IsTrue (g.D.Disk.is_usable l.disk);
  within : l.at ≤ l.len;
  size : length l.text.items ≡ l.at;
  whole : IsTrue (g.D.Disk.is_clean l.disk) → l.len ≡ length (g.D.Disk.seen l.fn.disk);
  faults : g.D.Disk.faults l.disk ≡ g.D.Disk.faults l.fn.disk;
  seen : g.D.Disk.seen l.disk ≡ g.D.Disk.seen l.fn.disk;
  clean : IsTrue (g.D.Disk.is_clean l.disk) → IsTrue (g.D.Disk.is_clean l.fn.disk);
  left : (file : List ℕ) → g.D.Disk.may_leave l.disk file → g.D.Disk.may_leave l.fn.disk file;
  begins : IsTrue (g.D.Disk.is_clean l.disk) → BeginsWith (g.D.Disk.seen l.disk) l.text.items;
  plain : HasNoZero l.text.items;
}

abbrev pub decreases-loop-at : goal.decreases-loop-at
decreases-loop-at g l = l.len - l.at
