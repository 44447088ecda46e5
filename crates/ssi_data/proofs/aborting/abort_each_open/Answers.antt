use Rattle.std.proofs.Common.{Bool, Ok, subst}
use Rattle.ssi_log.specs.declared.fault.LogFault.{LogFault}
use Rattle.ssi_data.specs.Clauses.Calls.{Makes}
use Rattle.ssi_data.specs.Clauses.Leaving.{HasTried}
use Rattle.ssi_data.proofs.Aborts.{none_carried_out, carried_out_aborts, one_more_open, one_more_carried_out}
use Rattle.ssi_data.proofs.aborting.abort_each_open.Goals as goal

pub loop-init : goal.loop-init
loop-init g c =
    none_carried_out g.T.ProtocolStore.keeps g.T.AnyStore.is_at c.args.server.now

pub returns-clause-aborts : goal.returns-clause-aborts
returns-clause-aborts g c =
    carried_out_aborts g.T.ProtocolStore.keeps g.T.AnyStore.is_at c.args.server.now
    c.loop.server c.loop.invariant

pub returns-in_default-clause-aborts : goal.returns-in_default-clause-aborts
returns-in_default-clause-aborts g c =
    carried_out_aborts g.T.ProtocolStore.keeps g.T.AnyStore.is_at c.args.server.now
    c.loop.server c.loop.invariant

pub loop-preserved : goal.loop-preserved
loop-preserved g c =
    let dumps = g.T.ProtocolStore.keeps in
    let is_at = g.T.AnyStore.is_at in
    one_more_carried_out dumps is_at {E = LogFault} c.args.server.now c.loop.server c.abort.new.server c.in-Some.session
    c.in-Some.ensures.some c.loop.invariant
    (subst (λ (b : Bool). Makes dumps is_at c.loop.server c.abort.new.server
    (λ calls made. HasTried {E = LogFault} c.in-Some.session (Ok b) calls made)) c.if-not-branch.false c.in_ok-abort.ensures.aborted)

pub returns-in_err-abort-clause-aborts : goal.returns-in_err-abort-clause-aborts
returns-in_err-abort-clause-aborts g c =
    one_more_open g.T.ProtocolStore.keeps g.T.AnyStore.is_at c.args.server.now
    c.loop.server c.abort.new.server c.in-Some.session c.abort.result c.in-Some.ensures.some c.loop.invariant
    c.abort.ensures.aborted

pub returns-then-not-branch-clause-aborts : goal.returns-then-not-branch-clause-aborts
returns-then-not-branch-clause-aborts g c =
    one_more_open g.T.ProtocolStore.keeps g.T.AnyStore.is_at c.args.server.now
    c.loop.server c.abort.new.server c.in-Some.session c.abort.result c.in-Some.ensures.some c.loop.invariant
    c.abort.ensures.aborted
