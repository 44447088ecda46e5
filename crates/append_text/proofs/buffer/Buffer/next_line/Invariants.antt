use Rattle.std.proofs.Common.{◌+◌, ◌≤◌, List, ℕ, length}
use Rattle.append_text.specs.Machinery.Buffers.{work_left}
use Rattle.append_text.specs.Machinery.BufferTexts.{HasLeft, pending_in}
use Rattle.append_text.proofs.BufferLines.{HasBegun}
use Rattle.append_text.proofs.buffer.Buffer.next_line.Given as goal

abbrev pub invariant-loop-self : goal.invariant-loop-self
invariant-loop-self g l = record {
  work : work_left (g.S.Source.left l.source) l.self.start l.self.end + length l.line.items
      ≤ work_left (g.S.Source.left l.initial.source) l.initial.self.start l.initial.self.end;
  begun : (text : List ℕ) → HasLeft l.initial.self (g.S.Read.remaining l.initial.source) text
      → HasBegun text l.line.items (pending_in l.self) (g.S.Read.remaining l.source);
}

abbrev pub decreases-loop-self : goal.decreases-loop-self
decreases-loop-self g l = g.S.Source.left l.source
