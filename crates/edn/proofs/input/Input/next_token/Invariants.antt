use Rattle.std.proofs.Common.{◌≡◌, ◌+◌, ◌≤◌, List, ℕ}
use Rattle.std.specs.Io.KnownBytes.{prepend_known}
use Rattle.edn.specs.Meaning.Lines.{IsAt}
use Rattle.edn.specs.Meaning.Reading.{IsLinked, PassesGap}
use Rattle.edn.specs.Machinery.Inputs.{IsSpent, work_left, to_meet}
use Rattle.edn.proofs.input.Input.next_token.Given as goal

abbrev pub invariant-loop-value : goal.invariant-loop-value
invariant-loop-value g l =
    (work_left (g.S.Source.left l.source) l.self.pending ≤ work_left (g.S.Source.left l.initial.source) l.initial.self.pending)
    × (IsLinked l.initial.self.beyond (g.S.Read.remaining l.initial.source)
    → IsLinked l.self.beyond (g.S.Read.remaining l.source)
    × PassesGap (prepend_known l.initial.self.pending (g.S.Read.remaining l.initial.source))
    (prepend_known l.self.pending (g.S.Read.remaining l.source)))
    × (g.S.Source.is_failed l.source ≡ g.S.Source.is_failed l.initial.source)
    × (IsSpent l.initial.self.beyond l.initial.self.pending
    → IsSpent l.self.beyond l.self.pending × (l.source ≡ l.initial.source))
    × ((text : List ℕ) → IsAt text (prepend_known l.initial.self.pending (g.S.Read.remaining l.initial.source)) l.initial.self.line
    → IsAt text (prepend_known l.self.pending (g.S.Read.remaining l.source)) l.self.line)

abbrev pub decreases-loop-value : goal.decreases-loop-value
decreases-loop-value g l = g.S.Source.left l.source + to_meet l.self.beyond
