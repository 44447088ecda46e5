use Rattle.std.proofs.Common.{◌≡◌, ◌≢◌, ◌≤◌, ◌⊎◌, [], false, All, IfSome, length}
use Rattle.std.specs.Io.KnownBytes.{Consumes, prepend_known}
use Rattle.devices.specs.Clauses.Lines.{work_left}
use Rattle.devices.specs.Clauses.Reading.{TookFewReads}
use Rattle.adya_text.proofs.lines.Lines.next_line.Given as goal

abbrev pub invariant-loop-line : goal.invariant-loop-line
invariant-loop-line g l =
    (All (λ x. x ≢ 10) l.line.items)
    × (IfSome l.longest (λ most. length l.line.items ≤ most))
    × (g.S.Source.same l.initial.source l.source)
    × (work_left (g.S.Source.left l.source) l.self ≤ work_left (g.S.Source.left l.initial.source) l.initial.self)
    × (g.S.Source.is_failed l.source ≡ g.S.Source.is_failed l.initial.source)
    × ((l.initial.self ≡ []) ⊎ (g.S.Source.is_failed l.initial.source ≡ false)
    → ((l.line.items ≡ []) × (l.self ≡ [])) ⊎ (g.S.Source.is_failed l.source ≡ false))
    × TookFewReads g.S.Read.remaining g.S.Source.left l.initial.source l.source 0
    × Consumes (prepend_known l.initial.self (g.S.Read.remaining l.initial.source))
    (prepend_known l.self (g.S.Read.remaining l.source)) l.line.items

abbrev pub decreases-loop-line : goal.decreases-loop-line
decreases-loop-line g l = work_left (g.S.Source.left l.source) l.self
