use Rattle.std.proofs.Common.{◌≡◌, ◌++◌}
use Rattle.std.specs.Map.{values_of}
use Rattle.ssi_recorder.proofs.installs.versions.Given as goal

abbrev pub invariant-versions : goal.invariant-versions
invariant-versions l = l.versions.items ++ l.entry-iterator ≡ values_of l.line.entries
