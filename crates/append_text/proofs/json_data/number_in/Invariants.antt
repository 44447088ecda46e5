use Rattle.std.proofs.Common.{◌≡◌, length}
use Rattle.append_text.specs.Meaning.Data.{number_after}
use Rattle.append_text.proofs.json_data.number_in.Given as goal

abbrev pub invariant-loop-rest : goal.invariant-loop-rest
invariant-loop-rest l = number_after 0 l.digits ≡ number_after l.number l.rest

abbrev pub decreases-loop-rest : goal.decreases-loop-rest
decreases-loop-rest l = length l.rest
