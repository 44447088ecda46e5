-- The lines so far are written.
use Rattle.std.proofs.Common.{take}
use Rattle.adya_values.specs.Mirror.Lines.{finals_of}
use Rattle.devices.specs.Clauses.Writing.{Grew}
use Rattle.adya_line.specs.Meaning.Spelling.{final_text}
use Rattle.adya_text.specs.Machinery.TextParts.{lines_of}
use Rattle.adya_text.proofs.writing.put_finals.Given as goal

abbrev pub invariant-loop-i : goal.invariant-loop-i
invariant-loop-i g l =
    Grew g.W.Write.contents l.initial.out l.out (lines_of final_text (take l.i (finals_of l.finals)))
