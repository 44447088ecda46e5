use Rattle.ssi_hub.proofs.OneStep.{step_when, step_carried, step_stopped, step_others, step_stands, step_serves}
use Rattle.ssi_hub.proofs.hub.Hub.step.Goals as goal

pub returns-clause-when : goal.returns-clause-when
returns-clause-when g c =
    step_when g.S.ProtocolStore.keeps g.S.AnyStore.is_at c.args.self.now
    c.carry_out_one.new.self c.args.token c.args.store.now c.carry_out_one.new.store c.carry_out_one.result
    c.carry_out_one.ensures.when c.carry_out_one.ensures.some

pub returns-clause-carried : goal.returns-clause-carried
returns-clause-carried g c =
    step_carried g.S.ProtocolStore.keeps g.S.AnyStore.is_at c.args.self.now
    c.carry_out_one.new.self c.args.token c.args.store.now c.carry_out_one.new.store c.carry_out_one.result
    c.carry_out_one.ensures.some

pub returns-clause-stopped : goal.returns-clause-stopped
returns-clause-stopped g c =
    step_stopped g.S.ProtocolStore.keeps g.S.AnyStore.is_at c.args.self.now
    c.carry_out_one.new.self c.args.token c.args.store.now c.carry_out_one.new.store c.carry_out_one.result
    c.carry_out_one.ensures.some

pub returns-clause-others : goal.returns-clause-others
returns-clause-others g c =
    step_others g.S.ProtocolStore.keeps g.S.AnyStore.is_at c.args.self.now
    c.carry_out_one.new.self c.args.token c.args.store.now c.carry_out_one.new.store c.carry_out_one.result
    c.carry_out_one.ensures.none c.carry_out_one.ensures.some

pub returns-clause-stands : goal.returns-clause-stands
returns-clause-stands g c =
    step_stands g.S.ProtocolStore.keeps g.S.AnyStore.is_at c.args.self.now
    c.carry_out_one.new.self c.args.token c.args.store.now c.carry_out_one.new.store c.carry_out_one.result
    c.carry_out_one.ensures.none c.carry_out_one.ensures.some c.carry_out_one.ensures.next

pub returns-clause-serves : goal.returns-clause-serves
returns-clause-serves g c = λ start calls s.
    step_serves g.S.ProtocolStore.keeps g.S.AnyStore.is_at c.args.self.now
    c.carry_out_one.new.self c.args.token c.args.store.now c.carry_out_one.new.store c.carry_out_one.result
    c.carry_out_one.ensures.none start calls s (returns-clause-stands g c calls s.stands)
