-- The reader was fed with the lines so far, and the rest is still to be read.
use Rattle.std.proofs.Common.{ℕ, List, length}
use Rattle.adya_text.specs.Machinery.LineReaders.{IsFed}
use Rattle.adya_text.proofs.LineLists.{IsAt}
use Rattle.adya_text.proofs.reading.read_lines.Given as goal

abbrev pub invariant-lines : goal.invariant-lines
invariant-lines g l = (past : List (List ℕ)) × IsAt l.text past l.rest
    × IsFed g.D.Draft.grammar g.D.Draft.has_lines l.reader.draft l.reader.fault past

abbrev pub decreases-lines : goal.decreases-lines
decreases-lines g l = length l.rest
