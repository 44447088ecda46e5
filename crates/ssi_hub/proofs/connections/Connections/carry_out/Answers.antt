use Rattle.std.proofs.Common.{rules, sym}
use Rattle.ssi_hub.proofs.connections.Connections.carry_out.Goals as goal

pub returns-clause-some : goal.returns-clause-some
returns-clause-some g c =
    (c.in-Some.connection.now, c.run.new.self, sym c.in-Some.ensures.value, search rules, c.run.ensures)
