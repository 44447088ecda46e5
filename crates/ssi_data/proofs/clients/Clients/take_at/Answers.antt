use Rattle.std.proofs.Common.{◌≡◌, true}
use Rattle.ssi_durable.specs.Mirror.Servers.{has_failed}
use Rattle.ssi_data.proofs.Rounds.{both, carries, failed_still, fails, quietly_either, unseen}
use Rattle.ssi_data.proofs.clients.Clients.take_at.Goals as goal

pub returns-clause-on : goal.returns-clause-on
returns-clause-on g c =
    unseen g.T.ProtocolStore.keeps g.T.AnyStore.is_at c.args.self.now.tables.users
    c.carry_out-carried.new.tables.users c.unless_full.new.self.tables.users c.args.self.now.server c.carry_out-carried.new.server
    c.unless_full.new.self.server c.unless_full.ensures.users c.unless_full.ensures.server
    (both g.T.ProtocolStore.keeps g.T.AnyStore.is_at c.args.self.now.tables.users c.args.self.now.tables.users
    c.carry_out-carried.new.tables.users c.args.self.now.server c.receive.new.server c.carry_out-carried.new.server
    (quietly_either g.T.ProtocolStore.keeps g.T.AnyStore.is_at {A = Unit {0}}
    c.calls_are_deeds.ensures.done c.calls_are_deeds.ensures.quiet c.receive.result c.args.self.now.tables.users
    c.args.self.now.server c.receive.new.server _ _ _ c.receive.ensures.received c.receive.ensures.dropped)
    (carries g.T.ProtocolStore.keeps g.T.AnyStore.is_at c.calls_are_deeds.ensures.done c.in-Some.token
    c.args.self.now.tables c.carry_out-carried.new.tables c.receive.new.server c.carry_out-carried.new.server _
    c.carry_out-carried.ensures.table c.carry_out-carried.ensures.carried))

pub returns-clause-failed : goal.returns-clause-failed
returns-clause-failed g c =
    fails {A = Unit {0}} {B = Unit {0}} (has_failed c.carry_out-carried.new.server ≡ true)
    (has_failed c.unless_full.new.self.server ≡ true) c.carry_out-carried.result c.unless_full.result
    (λ failed. failed_still c.unless_full.ensures.server failed) c.unless_full.ensures.fault
    c.carry_out-carried.ensures.fault
