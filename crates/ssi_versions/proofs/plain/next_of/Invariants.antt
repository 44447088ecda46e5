use Rattle.std.proofs.Common.{◌≡◌, [], take, map}
use Rattle.ssi_versions.specs.Mirror.{held_of, chain_of}
use Rattle.ssi_versions.proofs.plain.next_of.Given as goal

abbrev pub invariant-later : goal.invariant-later
invariant-later l = chain_of l.key (map held_of (take l.held-index l.later)) ≡ []
