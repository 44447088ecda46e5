use Rattle.std.proofs.Common.{ℕ, ◌<◌}
use Rattle.append_values.specs.Meaning.Histories.{outcome}
use Rattle.append_values.specs.Meaning.Runs.{Occurs}
use Rattle.append_check.specs.Meaning.Verdicts.{history_of}
use Rattle.append_check.specs.Machinery.Running.{flag}
use Rattle.append_check.proofs.replay.lists_the_right.Given as goal

abbrev pub invariant-places : goal.invariant-places
invariant-places l = (t : ℕ) → t < l.place → Occurs (outcome (history_of l.transactions) t) (flag l.listed.items t)
