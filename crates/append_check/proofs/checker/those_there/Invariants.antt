use Rattle.append_check.specs.Meaning.Verdicts.{history_of, AllHold}
use Rattle.append_check.proofs.checker.those_there.Given as goal

abbrev pub invariant-reasons : goal.invariant-reasons
invariant-reasons l = AllHold (history_of l.transactions) l.there.items
