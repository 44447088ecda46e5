use Rattle.ssi_data.proofs.Rounds.{then_on}
use Rattle.ssi_data.proofs.clients.Clients.round.Goals as goal

pub returns-in_err-take_all-clause-on : goal.returns-in_err-take_all-clause-on
returns-in_err-take_all-clause-on g c =
    then_on g.T.ProtocolStore.keeps g.T.AnyStore.is_at c.args.self.now c.go_on.new.self c.take_all.new.self c.go_on.ensures.on
    c.take_all.ensures.on

pub returns-in_err-release-clause-on : goal.returns-in_err-release-clause-on
returns-in_err-release-clause-on g c =
    let on = then_on g.T.ProtocolStore.keeps g.T.AnyStore.is_at in
    on c.args.self.now c.take_all.new.self c.release.new.self
    (on c.args.self.now c.go_on.new.self c.take_all.new.self c.go_on.ensures.on c.take_all.ensures.on) c.release.ensures.on

pub returns-clause-on : goal.returns-clause-on
returns-clause-on g c =
    let on = then_on g.T.ProtocolStore.keeps g.T.AnyStore.is_at in
    on c.args.self.now c.release.new.self c.reply_all.new.self
    (on c.args.self.now c.take_all.new.self c.release.new.self
    (on c.args.self.now c.go_on.new.self c.take_all.new.self c.go_on.ensures.on c.take_all.ensures.on) c.release.ensures.on)
    c.reply_all.ensures.on
