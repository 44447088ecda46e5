use Rattle.std.proofs.Common.{◌∙◌}
use Rattle.ssi_data.proofs.Idling.{one_idle}
use Rattle.ssi_data.proofs.idle.abort.Goals as goal

pub returns-clause-aborts : goal.returns-clause-aborts
returns-clause-aborts g c =
    one_idle g.T.ProtocolStore.keeps g.T.AnyStore.is_at c.args.session _ c.args.tables.now.users c.carry_out_own.new.tables.users
    c.args.server.now c.carry_out_own.new.server (c.deref.ensures.value ∙ c.in-Ok.ensures) c.carry_out_own.ensures.own
