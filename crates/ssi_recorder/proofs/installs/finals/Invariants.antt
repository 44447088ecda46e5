use Rattle.std.proofs.Common.{◌≡◌, ◌++◌}
use Rattle.std.specs.List.{filter_map}
use Rattle.adya_values.specs.Mirror.Lines.{finals_of}
use Rattle.ssi_recorder.specs.Machinery.Lines.{final_in}
use Rattle.ssi_recorder.proofs.installs.finals.Given as goal

abbrev pub invariant-lines : goal.invariant-lines
invariant-lines l = finals_of l.finals ++ filter_map final_in l.key-iterator ≡ filter_map final_in l.lines.entries
