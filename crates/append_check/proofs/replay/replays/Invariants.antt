use Rattle.std.proofs.Common.{drop}
use Rattle.append_values.specs.Meaning.Runs.{empty}
use Rattle.append_check.specs.Meaning.Verdicts.{history_of}
use Rattle.append_check.specs.Machinery.Running.{lists_of}
use Rattle.append_check.proofs.Running.{Replays}
use Rattle.append_check.proofs.replay.replays.Given as goal

abbrev pub invariant-order : goal.invariant-order
invariant-order l = Replays (history_of l.transactions) empty (lists_of l.lists) l.order (drop l.place-index l.order)
