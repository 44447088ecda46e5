-- A part of the line was taken, which is all that came so far.
use Rattle.std.proofs.Common.{◌≡◌, ◌≤◌, List, ℕ, true}
use Rattle.std.specs.Io.KnownBytes.{Consumes, prepend_known}
use Rattle.adya_line.specs.Meaning.Lines.{IsPlain}
use Rattle.devices.specs.Clauses.Lines.{work_left}
use Rattle.ssi_line.specs.Clauses.Answers.{kept}
use Rattle.ssi_line.proofs.lines.next_line.Given as goal

abbrev pub invariant-loop-buffer : goal.invariant-loop-buffer
invariant-loop-buffer g l =
    (g.S.Source.same l.initial.source l.source)
    × (work_left (g.S.Source.left l.source) l.buffer ≤ work_left (g.S.Source.left l.initial.source) l.initial.buffer)
    × (g.S.Source.is_failed l.source ≡ true → g.S.Source.is_failed l.initial.source ≡ true)
    × ((taken : List ℕ) × IsPlain taken × (l.line ≡ kept taken)
    × Consumes (prepend_known l.initial.buffer (g.S.Read.remaining l.initial.source))
    (prepend_known l.buffer (g.S.Read.remaining l.source)) taken)

abbrev pub decreases-loop-buffer : goal.decreases-loop-buffer
decreases-loop-buffer g l = work_left (g.S.Source.left l.source) l.buffer
