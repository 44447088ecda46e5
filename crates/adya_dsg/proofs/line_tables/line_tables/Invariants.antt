use Rattle.adya_terms.specs.Clauses.Checked.{checked_history}
use Rattle.adya_dsg.specs.Machinery.Places.{AreTables}
use Rattle.adya_dsg.proofs.line_tables.line_tables.Given as goal

abbrev pub invariant-loop-line : goal.invariant-loop-line
invariant-loop-line l = AreTables (checked_history l.checked) l.tables
