use Rattle.std.proofs.Common.{◌≡◌, ◌++◌, map, drop}
use Rattle.append_check.proofs.reasons.starts.Given as goal

abbrev pub invariant-links : goal.invariant-links
invariant-links l = l.starts.items ++ map (λ link. link.from) (drop l.link-index l.links) ≡ map (λ link. link.from) l.links
