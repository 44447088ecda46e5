use Rattle.std.proofs.Common.{sym, ◌∙◌}
use Rattle.ssi_data.proofs.Aborts.{when_ok, when_err}
use Rattle.ssi_data.proofs.OwnLines.{none_noted, none_opened, only_opened, some_ran}
use Rattle.ssi_data.proofs.own_lines.carry_out_untimed.Goals as goal

pub returns-in_default-clause-own : goal.returns-in_default-clause-own
returns-in_default-clause-own g c =
    let dumps = g.T.ProtocolStore.keeps in
    let is_at = g.T.AnyStore.is_at in
    none_noted dumps is_at c.calls_are_deeds.ensures.quiet c.args.tables.now.users c.args.server.now c.opened.new.self _
    (none_opened dumps is_at c.args.server.now c.opened.new.self _ c.in_default.ensures.serves)

pub returns-then-is_err-clause-own : goal.returns-then-is_err-clause-own
returns-then-is_err-clause-own g c =
    let dumps = g.T.ProtocolStore.keeps in
    let is_at = g.T.AnyStore.is_at in
    none_noted dumps is_at c.calls_are_deeds.ensures.quiet c.args.tables.now.users c.args.server.now c.hand_on.new.server _
    (only_opened dumps is_at c.args.server.now c.opened.new.self c.hand_on.new.server _ c.in-Ok.token c.in-Ok.ensures.token
    c.in-Ok.ensures.serves
    (λ n began calls s. when_err _ c.hand_on.result (sym c.is_err.ensures.value ∙ c.if-is_err.true)
    (c.hand_on.ensures.serves n began calls s)))

pub returns-in-Ok-carried-clause-own : goal.returns-in-Ok-carried-clause-own
returns-in-Ok-carried-clause-own g c =
    some_ran g.T.ProtocolStore.keeps g.T.AnyStore.is_at c.args.server.now c.opened.new.self c.hand_on.new.server
    c.carry_out-carried.new.server c.closed.new.self _ c.in-Ok.token c.in-Ok.ensures.token c.in-Ok.ensures.serves
    (λ n began calls s. when_ok _ c.hand_on.result (sym c.is_err.ensures.value ∙ c.if-is_err.false)
    (c.hand_on.ensures.serves n began calls s))
    c.closed.ensures.serves c.args.tables.now c.carry_out-carried.new.tables _ c.carry_out-carried.ensures.carried

pub returns-in-Err-clause-own : goal.returns-in-Err-clause-own
returns-in-Err-clause-own g c =
    some_ran g.T.ProtocolStore.keeps g.T.AnyStore.is_at c.args.server.now c.opened.new.self c.hand_on.new.server
    c.carry_out-carried.new.server c.closed.new.self _ c.in-Ok.token c.in-Ok.ensures.token c.in-Ok.ensures.serves
    (λ n began calls s. when_ok _ c.hand_on.result (sym c.is_err.ensures.value ∙ c.if-is_err.false)
    (c.hand_on.ensures.serves n began calls s))
    c.closed.ensures.serves c.args.tables.now c.carry_out-carried.new.tables _ c.carry_out-carried.ensures.carried
