use Rattle.std.proofs.Common.{◌≡◌, ◌++◌, List, ℕ}
use Rattle.append_text.specs.Machinery.BufferTexts.{HasLeft}
use Rattle.append_text.proofs.buffer.Buffer.read_to_end.Given as goal

abbrev pub invariant-loop-self : goal.invariant-loop-self
invariant-loop-self g l = (rest : List ℕ) → HasLeft l.initial.self (g.S.Read.remaining l.initial.source) rest
    → (more : List ℕ) × HasLeft l.self (g.S.Read.remaining l.source) more × (l.text.items ++ more ≡ l.initial.text.items ++ rest)

abbrev pub decreases-loop-self : goal.decreases-loop-self
decreases-loop-self g l = g.S.Source.left l.source
