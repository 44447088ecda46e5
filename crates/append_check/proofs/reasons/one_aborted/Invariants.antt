use Rattle.std.proofs.Common.{◌≡◌}
use Rattle.append_values.specs.declared.transaction.Outcome.TheVariants.{Aborted}
use Rattle.append_values.specs.Meaning.Histories.{outcome}
use Rattle.append_check.specs.Meaning.Verdicts.{history_of}
use Rattle.append_check.proofs.Each.{Each}
use Rattle.append_check.proofs.reasons.one_aborted.Given as goal

abbrev pub invariant-places : goal.invariant-places
invariant-places l = Each (λ t. outcome (history_of l.transactions) t ≡ Aborted → ⊥) l.places l.place-index
