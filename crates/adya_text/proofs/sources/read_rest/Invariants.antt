-- The reader was fed with the lines that are read.
use Rattle.std.proofs.Common.{◌≡◌, ◌⊎◌, ℕ, List, [], false}
use Rattle.std.specs.Io.KnownBytes.{prepend_known}
use Rattle.devices.specs.Clauses.Lines.{work_left}
use Rattle.devices.specs.Clauses.Reading.{TookFewReads}
use Rattle.adya_text.specs.Machinery.LineReaders.{IsFed}
use Rattle.adya_text.proofs.LinesRead.{WereRead}
use Rattle.adya_text.proofs.sources.read_rest.Given as goal

abbrev pub invariant-loop-line : goal.invariant-loop-line
invariant-loop-line g l =
    (g.S.Source.same l.fn.source l.source)
    × (g.S.Source.is_failed l.source ≡ g.S.Source.is_failed l.fn.source)
    × (l.fn.lines ≡ [] → (l.lines ≡ []) ⊎ (g.S.Source.is_failed l.source ≡ false))
    × TookFewReads g.S.Read.remaining g.S.Source.left l.fn.source l.source 0
    × ((past : List (List ℕ)) × IsFed g.D.Draft.grammar g.D.Draft.has_lines l.reader.draft l.reader.fault past
    × WereRead (prepend_known l.fn.lines (g.S.Read.remaining l.fn.source)) past
    (prepend_known l.lines (g.S.Read.remaining l.source)))

abbrev pub decreases-loop-line : goal.decreases-loop-line
decreases-loop-line g l = work_left (g.S.Source.left l.source) l.lines
