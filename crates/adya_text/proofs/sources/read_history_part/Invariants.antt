-- The reader was fed with the lines that are read, and none of them is `end`.
use Rattle.std.proofs.Common.{◌≡◌, ◌≢◌, ◌⊎◌, ℕ, List, [], All, false}
use Rattle.std.specs.Io.KnownBytes.{prepend_known}
use Rattle.adya_line.specs.Meaning.Spelling.{tail}
use Rattle.adya_text.specs.Clauses.Grammars.{AreHistoryLines}
use Rattle.adya_text.specs.Machinery.HistoryDrafts.{HasLines}
use Rattle.adya_text.specs.Machinery.LineReaders.{IsFed}
use Rattle.devices.specs.Clauses.Lines.{work_left}
use Rattle.devices.specs.Clauses.Reading.{TookFewReads}
use Rattle.adya_text.proofs.LinesRead.{WereRead}
use Rattle.adya_text.proofs.sources.read_history_part.Given as goal

abbrev pub invariant-loop-line : goal.invariant-loop-line
invariant-loop-line g l =
    (g.S.Source.same l.fn.source l.source)
    × (g.S.Source.is_failed l.source ≡ g.S.Source.is_failed l.fn.source)
    × (l.fn.lines ≡ [] → (l.lines ≡ []) ⊎ (g.S.Source.is_failed l.source ≡ false))
    × TookFewReads g.S.Read.remaining g.S.Source.left l.fn.source l.source 0
    × ((past : List (List ℕ)) × IsFed AreHistoryLines HasLines l.reader.draft l.reader.fault past
    × All (λ line. line ≢ tail) past × WereRead (prepend_known l.fn.lines (g.S.Read.remaining l.fn.source)) past
    (prepend_known l.lines (g.S.Read.remaining l.source)))

abbrev pub decreases-loop-line : goal.decreases-loop-line
decreases-loop-line g l = work_left (g.S.Source.left l.source) l.lines
