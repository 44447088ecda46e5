use Rattle.ssi_data.proofs.Rounds.{then_on, then_unseen}
use Rattle.ssi_data.proofs.service.serve.Goals as goal

pub returns-in-Err-clause-on : goal.returns-in-Err-clause-on
returns-in-Err-clause-on g c =
    then_on g.T.ProtocolStore.keeps g.T.AnyStore.is_at c.args.clients.now c.loop.clients c.round.new.self c.loop.invariant
    c.round.ensures.on

pub returns-then-is_stopped-clause-on : goal.returns-then-is_stopped-clause-on
returns-then-is_stopped-clause-on g c =
    let on = then_on g.T.ProtocolStore.keeps g.T.AnyStore.is_at in
    on c.args.clients.now c.settle.new.self c.write_all.new.self
    (on c.args.clients.now c.round.new.self c.settle.new.self
    (on c.args.clients.now c.loop.clients c.round.new.self c.loop.invariant c.round.ensures.on) c.settle.ensures.on)
    c.write_all.ensures.on

pub returns-in-Err-settle-clause-on : goal.returns-in-Err-settle-clause-on
returns-in-Err-settle-clause-on g c =
    let on = then_on g.T.ProtocolStore.keeps g.T.AnyStore.is_at in
    on c.args.clients.now c.round.new.self c.settle.new.self
    (on c.args.clients.now c.loop.clients c.round.new.self c.loop.invariant c.round.ensures.on) c.settle.ensures.on

pub returns-in-Err-end_all-clause-on : goal.returns-in-Err-end_all-clause-on
returns-in-Err-end_all-clause-on g c =
    let on = then_on g.T.ProtocolStore.keeps g.T.AnyStore.is_at in
    on c.args.clients.now c.round.new.self c.end_all.new.self
    (on c.args.clients.now c.loop.clients c.round.new.self c.loop.invariant c.round.ensures.on) c.end_all.ensures.on

pub returns-in-Err-tidy-clause-on : goal.returns-in-Err-tidy-clause-on
returns-in-Err-tidy-clause-on g c =
    let on = then_on g.T.ProtocolStore.keeps g.T.AnyStore.is_at in
    on c.args.clients.now c.end_idle.new.self c.tidy.new.self
    (on c.args.clients.now c.end_all.new.self c.end_idle.new.self
    (on c.args.clients.now c.round.new.self c.end_all.new.self
    (on c.args.clients.now c.loop.clients c.round.new.self c.loop.invariant c.round.ensures.on) c.end_all.ensures.on)
    c.end_idle.ensures.on) c.tidy.ensures.on

pub returns-in-Err-end_idle-clause-on : goal.returns-in-Err-end_idle-clause-on
returns-in-Err-end_idle-clause-on g c =
    let on = then_on g.T.ProtocolStore.keeps g.T.AnyStore.is_at in
    on c.args.clients.now c.end_all.new.self c.end_idle.new.self
    (on c.args.clients.now c.round.new.self c.end_all.new.self
    (on c.args.clients.now c.loop.clients c.round.new.self c.loop.invariant c.round.ensures.on) c.end_all.ensures.on)
    c.end_idle.ensures.on

pub returns-in-Some-clause-on : goal.returns-in-Some-clause-on
returns-in-Some-clause-on g c =
    let on = then_on g.T.ProtocolStore.keeps g.T.AnyStore.is_at in
    then_unseen g.T.ProtocolStore.keeps g.T.AnyStore.is_at c.args.clients.now c.accept.new.self c.news.new.self
    c.news.ensures.users c.news.ensures.server
    (on c.args.clients.now c.tidy.new.self c.accept.new.self
    (on c.args.clients.now c.end_idle.new.self c.tidy.new.self
    (on c.args.clients.now c.end_all.new.self c.end_idle.new.self
    (on c.args.clients.now c.round.new.self c.end_all.new.self
    (on c.args.clients.now c.loop.clients c.round.new.self c.loop.invariant c.round.ensures.on) c.end_all.ensures.on)
    c.end_idle.ensures.on) c.tidy.ensures.on) c.accept.ensures)

pub loop-preserved : goal.loop-preserved
loop-preserved g c =
    let on = then_on g.T.ProtocolStore.keeps g.T.AnyStore.is_at in
    then_unseen g.T.ProtocolStore.keeps g.T.AnyStore.is_at c.args.clients.now c.accept.new.self c.news.new.self
    c.news.ensures.users c.news.ensures.server
    (on c.args.clients.now c.tidy.new.self c.accept.new.self
    (on c.args.clients.now c.end_idle.new.self c.tidy.new.self
    (on c.args.clients.now c.end_all.new.self c.end_idle.new.self
    (on c.args.clients.now c.round.new.self c.end_all.new.self
    (on c.args.clients.now c.loop.clients c.round.new.self c.loop.invariant c.round.ensures.on) c.end_all.ensures.on)
    c.end_idle.ensures.on) c.tidy.ensures.on) c.accept.ensures)

pub returns-then-is_due-clause-on : goal.returns-then-is_due-clause-on
returns-then-is_due-clause-on g c =
    let on = then_on g.T.ProtocolStore.keeps g.T.AnyStore.is_at in
    then_unseen g.T.ProtocolStore.keeps g.T.AnyStore.is_at c.args.clients.now c.accept.new.self c.news.new.self
    c.news.ensures.users c.news.ensures.server
    (on c.args.clients.now c.tidy.new.self c.accept.new.self
    (on c.args.clients.now c.end_idle.new.self c.tidy.new.self
    (on c.args.clients.now c.end_all.new.self c.end_idle.new.self
    (on c.args.clients.now c.round.new.self c.end_all.new.self
    (on c.args.clients.now c.loop.clients c.round.new.self c.loop.invariant c.round.ensures.on) c.end_all.ensures.on)
    c.end_idle.ensures.on) c.tidy.ensures.on) c.accept.ensures)
