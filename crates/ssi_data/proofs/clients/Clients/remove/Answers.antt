use Rattle.std.proofs.Common.{◌≡◌, true, Err}
use Rattle.ssi_durable.specs.Mirror.Servers.{has_failed}
use Rattle.ssi_data.proofs.Rounds.{aborts, failed_still, fails, unseen}
use Rattle.ssi_data.proofs.clients.Clients.remove.Goals as goal

pub returns-in-Ok-clause-on : goal.returns-in-Ok-clause-on
returns-in-Ok-clause-on g c =
    aborts g.T.ProtocolStore.keeps g.T.AnyStore.is_at c.aborts_are_deeds.ensures c.args.token
    c.args.self.now.tables.users c.abort_all.new.users c.args.self.now.server c.abort_all.new.server c.abort_all.ensures.table
    c.abort_all.ensures.forgets c.requires c.abort_all.ensures.aborts

pub returns-in-Err-clause-on : goal.returns-in-Err-clause-on
returns-in-Err-clause-on g c =
    unseen g.T.ProtocolStore.keeps g.T.AnyStore.is_at c.args.self.now.tables.users c.abort_all.new.users
    c.unless_full.new.self.tables.users c.args.self.now.server c.abort_all.new.server c.unless_full.new.self.server
    c.unless_full.ensures.users c.unless_full.ensures.server
    (aborts g.T.ProtocolStore.keeps g.T.AnyStore.is_at c.aborts_are_deeds.ensures c.args.token
    c.args.self.now.tables.users c.abort_all.new.users c.args.self.now.server c.abort_all.new.server c.abort_all.ensures.table
    c.abort_all.ensures.forgets c.requires c.abort_all.ensures.aborts)

pub returns-in-Err-clause-failed : goal.returns-in-Err-clause-failed
returns-in-Err-clause-failed g c =
    fails {A = Unit {0}} {B = Unit {0}} (has_failed c.abort_all.new.server ≡ true)
    (has_failed c.unless_full.new.self.server ≡ true) (Err c.in-Err.fault) c.unless_full.result
    (λ failed. failed_still c.unless_full.ensures.server failed) c.unless_full.ensures.fault c.in-Err.ensures.fault
