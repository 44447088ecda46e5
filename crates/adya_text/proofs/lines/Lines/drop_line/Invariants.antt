-- What was dropped has no line feed, and the source hasn't failed since.
use Rattle.std.proofs.Common.{◌≡◌, ℕ, List}
use Rattle.std.specs.Io.KnownBytes.{Consumes, prepend_known}
use Rattle.adya_line.specs.Meaning.Lines.{IsPlain}
use Rattle.devices.specs.Clauses.Reading.{TookFewReads}
use Rattle.adya_text.proofs.lines.Lines.drop_line.Given as goal

abbrev pub invariant-loop-self : goal.invariant-loop-self
invariant-loop-self g l =
    (g.S.Source.same l.initial.source l.source)
    × (g.S.Source.is_failed l.source ≡ g.S.Source.is_failed l.initial.source)
    × TookFewReads g.S.Read.remaining g.S.Source.left l.initial.source l.source 0
    × ((dropped : List ℕ) × IsPlain dropped × Consumes (prepend_known l.initial.self (g.S.Read.remaining l.initial.source))
    (prepend_known l.self (g.S.Read.remaining l.source)) dropped)

abbrev pub decreases-loop-self : goal.decreases-loop-self
decreases-loop-self g l = g.S.Source.left l.source
