use Rattle.ssi_conflict.specs.Computing.Steps.{smallest_pivot}
use Rattle.ssi_conflict.specs.Clauses.Pairs.{IsPivot}
use Rattle.ssi_conflict.proofs.PivotsNamed.{named_exactly, pivots_named}
use Rattle.ssi_conflict.proofs.laws.pivots_are_named.Goals as goal

pub returns : goal.returns
returns c calls a named = named_exactly IsPivot calls (smallest_pivot calls) named (pivots_named calls a)
