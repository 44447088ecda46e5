-- The entries so far are written.
use Rattle.std.proofs.Common.{take}
use Rattle.std.specs.List.{flat_map}
use Rattle.adya_values.specs.Mirror.Events.{entries_of}
use Rattle.devices.specs.Clauses.Writing.{Grew}
use Rattle.adya_line.specs.Meaning.Spelling.{entry_text}
use Rattle.adya_line.proofs.writing.put_entries.Given as goal

abbrev pub invariant-loop-j : goal.invariant-loop-j
invariant-loop-j g l =
    Grew g.W.Write.contents l.initial.out l.out (flat_map entry_text (take l.j (entries_of l.entries)))
