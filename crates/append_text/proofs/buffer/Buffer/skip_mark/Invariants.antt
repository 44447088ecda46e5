use Rattle.std.proofs.Common.{◌≡◌, ◌≤◌, ℕ, List}
use Rattle.append_text.specs.Machinery.BufferTexts.{HasLeft}
use Rattle.append_text.proofs.buffer.Buffer.skip_mark.Given as goal

abbrev pub invariant-loop-self : goal.invariant-loop-self
invariant-loop-self g l = record {
  start : l.self.start ≡ l.initial.self.start;
  short : l.initial.self.end ≡ 0 → l.self.end ≤ 3;
  kept : (text : List ℕ) → HasLeft l.initial.self (g.S.Read.remaining l.initial.source) text
      → HasLeft l.self (g.S.Read.remaining l.source) text;
}

abbrev pub decreases-loop-self : goal.decreases-loop-self
decreases-loop-self g l = g.S.Source.left l.source
