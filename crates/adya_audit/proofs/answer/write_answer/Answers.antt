use Rattle.std.proofs.Common.{map, ap}
use Rattle.adya_dsg.specs.Mirror.{edge_of}
use Rattle.adya_audit.specs.Clauses.Answers.{answer_of}
use Rattle.adya_audit.proofs.answer.write_answer.Goals as goal

pub returns-in_ok-write_cycle-in-Cycle-clause-kind : goal.returns-in_ok-write_cycle-in-Cycle-clause-kind
returns-in_ok-write_cycle-in-Cycle-clause-kind g c = (map edge_of c.in-Cycle.edges.items, ap answer_of c.in-Cycle.is)
