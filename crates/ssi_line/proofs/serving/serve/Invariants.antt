-- Lines were read, and each was carried out and answered.
use Rattle.std.proofs.Common.{◌≡◌, List, ℕ, [], true}
use Rattle.std.specs.Io.KnownBytes.{prepend_known}
use Rattle.devices.specs.Clauses.Writing.{Grew}
use Rattle.ssi_store.specs.Mirror.Stores.{IsAt}
use Rattle.ssi_line.specs.Meaning.Steps.{Step, AllGoOn, steps_text}
use Rattle.ssi_line.specs.Clauses.Ends.{WentOn, Took}
use Rattle.devices.specs.Clauses.Lines.{work_left}
use Rattle.ssi_line.proofs.serving.serve.Given as goal

abbrev pub invariant-loop-line : goal.invariant-loop-line
invariant-loop-line g l =
    (g.S.Source.same l.initial.reader l.reader)
    × (g.S.Source.is_failed l.reader ≡ true → g.S.Source.is_failed l.initial.reader ≡ true)
    × ((lines : List (List ℕ)) × (steps : List Step)
    × Took (g.S.Read.remaining l.initial.reader) lines steps [] (prepend_known l.buffer (g.S.Read.remaining l.reader))
    × WentOn (IsAt g.C.Chains.held g.M.Marks.marked) l.initial.store steps l.store
    × AllGoOn steps
    × Grew g.W.Write.contents l.initial.writer l.writer (steps_text steps))

abbrev pub decreases-loop-line : goal.decreases-loop-line
decreases-loop-line g l = work_left (g.S.Source.left l.reader) l.buffer
