use Rattle.std.proofs.Common.{List, ℕ}
use Rattle.append_text.specs.Machinery.Buffers.{work_left}
use Rattle.append_text.specs.Machinery.BufferTexts.{HasLeft}
use Rattle.append_text.proofs.JsonReadings.{HaveRead}
use Rattle.append_text.proofs.json_text.json_lines.Given as goal

abbrev pub invariant-loop-line : goal.invariant-loop-line
invariant-loop-line g l = (text : List ℕ) → HasLeft l.initial.buffer (g.S.Read.remaining l.initial.source) text
    → (rest : List ℕ) × HasLeft l.buffer (g.S.Read.remaining l.source) rest × HaveRead text rest l.number l.collector

abbrev pub decreases-loop-line : goal.decreases-loop-line
decreases-loop-line g l = work_left (g.S.Source.left l.source) l.buffer.start l.buffer.end
