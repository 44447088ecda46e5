use Rattle.adya_terms.specs.Clauses.Checked.{checked_history}
use Rattle.adya_dsg.specs.Machinery.LineChanges.{AreChanges}
use Rattle.adya_dsg.proofs.changes.line_changes.Given as goal

abbrev pub invariant-loop-line : goal.invariant-loop-line
invariant-loop-line l = AreChanges (checked_history l.checked) l.places.items l.starts.items l.line
