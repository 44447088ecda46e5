use Rattle.std.proofs.Common.{◌≡◌, ◌++◌}
use Rattle.std.specs.Map.{values_of}
use Rattle.ssi_versions.proofs.plain.listed.Given as goal

abbrev pub invariant-found : goal.invariant-found
invariant-found l = l.found.items ++ l.held-iterator ≡ values_of l.seen.entries
