use Rattle.std.proofs.Common.{◌≡◌, ℕ, List}
use Rattle.append_text.specs.Machinery.BufferTexts.{HasLeft}
use Rattle.append_text.proofs.buffer.Buffer.form.Given as goal

abbrev pub invariant-loop-form : goal.invariant-loop-form
invariant-loop-form g l = record {
  start : l.self.start ≡ l.initial.self.start;
  kept : (text : List ℕ) → HasLeft l.initial.self (g.S.Read.remaining l.initial.source) text
      → HasLeft l.self (g.S.Read.remaining l.source) text;
}

abbrev pub decreases-loop-form : goal.decreases-loop-form
decreases-loop-form g l = g.S.Source.left l.source
