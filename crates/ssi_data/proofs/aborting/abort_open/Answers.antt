use Rattle.ssi_data.proofs.Aborts.{carried_out_still, open_still}
use Rattle.ssi_data.proofs.aborting.abort_open.Goals as goal

pub returns-in_err-settle-clause-aborts : goal.returns-in_err-settle-clause-aborts
returns-in_err-settle-clause-aborts g c =
    open_still g.T.ProtocolStore.keeps g.T.AnyStore.is_at c.args.server.now
    c.abort_each_open.new.server c.settle.new.self c.abort_each_open.ensures.aborts c.settle.ensures.serves

pub returns-then-all-clause-aborts : goal.returns-then-all-clause-aborts
returns-then-all-clause-aborts g c =
    open_still g.T.ProtocolStore.keeps g.T.AnyStore.is_at c.args.server.now
    c.abort_each_open.new.server c.settle.new.self c.abort_each_open.ensures.aborts c.settle.ensures.serves

pub returns-then-all-clause-all : goal.returns-then-all-clause-all
returns-then-all-clause-all g c = λ none.
    carried_out_still g.T.ProtocolStore.keeps g.T.AnyStore.is_at c.args.server.now
    c.abort_each_open.new.server c.settle.new.self (c.in_ok-all.ensures.all c.if-all.true) c.settle.ensures.serves

pub returns-else-all-clause-aborts : goal.returns-else-all-clause-aborts
returns-else-all-clause-aborts g c =
    open_still g.T.ProtocolStore.keeps g.T.AnyStore.is_at c.args.server.now
    c.abort_each_open.new.server c.settle.new.self c.abort_each_open.ensures.aborts c.settle.ensures.serves
