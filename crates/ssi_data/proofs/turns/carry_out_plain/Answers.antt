use Rattle.ssi_data.proofs.Turning.{carried_maybe, carried_none, if_ok, if_err, no_users, no_times}
use Rattle.ssi_data.proofs.turns.carry_out_plain.Goals as goal
use Rattle.std.proofs.Common.{refl}

pub returns-in-Ok-clause-carried : goal.returns-in-Ok-clause-carried
returns-in-Ok-clause-carried g c = λ tables none.
    let dumps = g.T.ProtocolStore.keeps in
    let is_at = g.T.AnyStore.is_at in
    if_ok dumps is_at c.args.token tables tables c.args.server.now c.step.new.self
    (carried_maybe dumps is_at c.args.token tables tables c.args.server.now c.step.new.self c.in-Ok.field-0 c.requires
    c.in-Ok.ensures.when c.in-Ok.ensures.serves (λ carried line step is s u e. no_users tables.users tables.times none s u e) refl
    (λ carried line step is s u e. no_times tables.users tables.times none s u e))

pub returns-in-Err-clause-carried : goal.returns-in-Err-clause-carried
returns-in-Err-clause-carried g c = λ tables none.
    let dumps = g.T.ProtocolStore.keeps in
    let is_at = g.T.AnyStore.is_at in
    if_err dumps is_at c.args.token tables tables c.args.server.now c.step.new.self
    (carried_none dumps is_at c.args.token ⊥ tables c.args.server.now c.step.new.self (λ h. h) c.in-Err.ensures.serves)
