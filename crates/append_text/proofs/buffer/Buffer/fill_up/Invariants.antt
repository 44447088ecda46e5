use Rattle.std.proofs.Common.{◌≡◌, ℕ, List}
use Rattle.append_text.specs.Machinery.BufferTexts.{HasLeft}
use Rattle.append_text.proofs.buffer.Buffer.fill_up.Given as goal

abbrev pub invariant-loop : goal.invariant-loop
invariant-loop g l = record {
  start : l.self.start ≡ l.initial.self.start;
  kept : (text : List ℕ) → HasLeft l.initial.self (g.S.Read.remaining l.initial.source) text
      → HasLeft l.self (g.S.Read.remaining l.source) text;
}

abbrev pub decreases-loop : goal.decreases-loop
decreases-loop g l = g.S.Source.left l.source
