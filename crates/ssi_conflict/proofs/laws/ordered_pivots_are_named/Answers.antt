use Rattle.ssi_conflict.specs.Computing.Steps.{smallest_ordered_pivot}
use Rattle.ssi_conflict.specs.Clauses.Pairs.{IsOrderedPivot}
use Rattle.ssi_conflict.proofs.PivotsNamed.{named_exactly, ordered_named}
use Rattle.ssi_conflict.proofs.laws.ordered_pivots_are_named.Goals as goal

pub returns : goal.returns
returns c calls a named = named_exactly IsOrderedPivot calls (smallest_ordered_pivot calls) named
    (ordered_named calls a)
