use Rattle.std.proofs.Common.{ℕ, drop}
use Rattle.append_values.specs.Meaning.Reasons.{IsChain}
use Rattle.append_check.specs.Meaning.Verdicts.{history_of}
use Rattle.append_check.proofs.reasons.closes.Given as goal

abbrev pub invariant-links : goal.invariant-links
invariant-links l = (t : ℕ) → IsChain (history_of l.transactions) l.at (drop l.link-index l.links) t
    → IsChain (history_of l.transactions) l.initial.at l.links t
