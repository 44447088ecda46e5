use Rattle.std.proofs.Common.{sym, ◌∙◌, false, Ok, Err}
use Rattle.std.proofs.lemmas.Bool.{false≢true}
use Rattle.ssi_log.specs.declared.fault.LogFault.{LogFault}
use Rattle.ssi_data.proofs.Aborts.{not_done, carried_maybe, when_ok, when_err}
use Rattle.ssi_data.proofs.OwnLines.{none_opened, only_opened, sent_only, none_ran, if_one_ran}
use Rattle.ssi_data.proofs.leaving.abort_by.Goals as goal

pub returns-in_default-clause-aborted : goal.returns-in_default-clause-aborted
returns-in_default-clause-aborted g c =
    let dumps = g.T.ProtocolStore.keeps in
    let is_at = g.T.AnyStore.is_at in
    not_done dumps is_at {E = LogFault} c.args.server.now c.opened.new.self c.args.session c.args.line.now (Ok false) c.requires (λ h. false≢true h)
    (none_opened dumps is_at c.args.server.now c.opened.new.self c.args.line.now c.in_default.ensures.serves)

pub returns-then-is_err-clause-aborted : goal.returns-then-is_err-clause-aborted
returns-then-is_err-clause-aborted g c =
    let dumps = g.T.ProtocolStore.keeps in
    let is_at = g.T.AnyStore.is_at in
    not_done dumps is_at {E = LogFault} c.args.server.now c.hand_on.new.server c.args.session c.args.line.now (Ok false) c.requires (λ h. false≢true h)
    (only_opened dumps is_at c.args.server.now c.opened.new.self
    c.hand_on.new.server c.args.line.now c.in-Ok.token c.in-Ok.ensures.token c.in-Ok.ensures.serves
    (λ n began calls s. when_err _ c.hand_on.result (sym c.is_err.ensures.value ∙ c.if-is_err.true)
    (c.hand_on.ensures.serves n began calls s)))

pub returns-in-Ok-stepped-clause-aborted : goal.returns-in-Ok-stepped-clause-aborted
returns-in-Ok-stepped-clause-aborted g c =
    let dumps = g.T.ProtocolStore.keeps in
    let is_at = g.T.AnyStore.is_at in
    carried_maybe dumps is_at LogFault c.args.server.now c.closed.new.self c.args.session c.args.line.now
    c.in-Ok-stepped.carried c.is_some.result c.requires c.is_some.ensures
    (none_ran dumps is_at c.args.server.now c.opened.new.self c.hand_on.new.server c.step-stepped.new.self c.closed.new.self
    c.args.line.now c.in-Ok.token c.in-Ok.ensures.token c.in-Ok.ensures.serves
    (λ n began calls s. when_ok _ c.hand_on.result (sym c.is_err.ensures.value ∙ c.if-is_err.false)
    (c.hand_on.ensures.serves n began calls s))
    c.closed.ensures.serves c.in-Ok-stepped.carried c.in-Ok-stepped.ensures.serves)
    (if_one_ran dumps is_at c.args.server.now c.opened.new.self c.hand_on.new.server c.step-stepped.new.self c.closed.new.self
    c.args.line.now c.in-Ok.token c.in-Ok.ensures.token c.in-Ok.ensures.serves
    (λ n began calls s. when_ok _ c.hand_on.result (sym c.is_err.ensures.value ∙ c.if-is_err.false)
    (c.hand_on.ensures.serves n began calls s))
    c.closed.ensures.serves c.in-Ok-stepped.carried c.in-Ok-stepped.ensures.serves)

pub returns-in-Err-clause-aborted : goal.returns-in-Err-clause-aborted
returns-in-Err-clause-aborted g c =
    let dumps = g.T.ProtocolStore.keeps in
    let is_at = g.T.AnyStore.is_at in
    not_done dumps is_at {E = LogFault} c.args.server.now c.closed.new.self c.args.session c.args.line.now (Err c.in-Err.fault) c.requires tt
    (sent_only dumps is_at c.args.server.now
    c.opened.new.self c.hand_on.new.server c.step-stepped.new.self c.closed.new.self c.args.line.now
    c.in-Ok.token c.in-Ok.ensures.token c.in-Ok.ensures.serves
    (λ n began calls s. when_ok _ c.hand_on.result (sym c.is_err.ensures.value ∙ c.if-is_err.false)
    (c.hand_on.ensures.serves n began calls s))
    c.closed.ensures.serves c.in-Err.ensures.serves)

pub returns-in-Err-clause-fault : goal.returns-in-Err-clause-fault
returns-in-Err-clause-fault g c = λ apart. c.closed.ensures.failed ∙ c.in-Err.ensures.fault apart
