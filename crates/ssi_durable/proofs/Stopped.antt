-- At which line a replay stops.
use Rattle.std.proofs.Common.{◌≡◌, ℕ, suc, List, ◌∷◌, ◌++◌, length}
use Rattle.adya_keys.specs.Meaning.Keys.{Bytes}
use Rattle.ssi_store.specs.Meaning.Courses.{Course, New}
use Rattle.ssi_durable.specs.declared.fault.LineFault.{LineFault}
use Rattle.ssi_durable.specs.declared.fault.LineFault.TheVariants as line_fault
use Rattle.ssi_durable.specs.Meaning.Replays.{Replays}
use Rattle.ssi_durable.specs.Clauses.Recovery.{LineFails, ReplayFails}
use Rattle.ssi_durable.specs.Machinery.Faults.{at_line}

pub stopped : (n : ℕ) (lines before after : List Bytes) (line : Bytes) (k : ℕ) (course : Course) (f : LineFault)
    → lines ≡ before ++ (line ∷ after) → k ≡ suc (length before) → Replays (New 1) before course → LineFails course line f
    → ReplayFails n lines (at_line f k)
stopped n lines before after line k course line_fault.Damaged cut place replayed fails = record {
  before = before;
  line = line;
  after = after;
  cut = cut;
  place = place;
  course = course;
  replayed = replayed;
  has = fails;
}
stopped n lines before after line k course line_fault.Memory cut place replayed fails = record {
  before = before;
  line = line;
  after = after;
  cut = cut;
  place = place;
  course = course;
  replayed = replayed;
  has = fails;
}
