use Rattle.std.proofs.Common.{◌≡◌, ◌∙◌, true, Result, Err, refl, sym, ap, subst}
use Rattle.ssi_store.specs.Mirror.Stores.{IsAt}
use Rattle.ssi_hub.specs.Mirror.{buffers_of, is_stopped}
use Rattle.ssi_cli.specs.declared.closing.Closing.{Closing}
use Rattle.ssi_cli.specs.declared.peer.Input.TheVariants.{Ended}
use Rattle.ssi_cli.specs.Clauses.Turns.{MayRun, Did}
use Rattle.ssi_cli.specs.Mirror.{stream_of, input_of}
use Rattle.ssi_cli.proofs.Turning.{did_receive, same_error, error_has, has_read_on, at_end_on, not_broken, memory_apart, memory_unended, broken_unended, if_ended, ended_unbroken}
use Rattle.ssi_cli.proofs.Deeds.{did_carried, did_sent, did_all}
use Rattle.ssi_cli.proofs.turns.serve.Goals as goal

-- ---- what was read can't be kept

pub returns-in_err-receive-clause-did : goal.returns-in_err-receive-clause-did
returns-in_err-receive-clause-did g c =
    subst (λ (r : Result (Unit {0}) Closing). Did {S = g.row.S.Denot} g.S.Read.remaining g.S.Write.contents
    (IsAt {g = g.C.Chains} {h = g.M.Marks} g.C.Chains.held g.M.Marks.marked) c.args.token
    (MayRun (is_stopped c.args.hub.now) (buffers_of c.args.hub.now c.args.token))
    (g.S.Stream.is_steady (stream_of c.args.peer.now) ≡ true) r c.args.users.now c.args.hub.now (stream_of c.args.peer.now)
    c.args.store.now c.args.users.now c.receive.new.hub (stream_of c.receive.new.peer) c.args.store.now)
    (sym (same_error c.from_residual.result c.in_err-receive.field-0.0 c.from_residual.ensures.1))
    (did_receive {S = g.row.S.Denot} g.S.Read.remaining g.S.Write.contents
    (IsAt {g = g.C.Chains} {h = g.M.Marks} g.C.Chains.held g.M.Marks.marked) c.args.token {A = Unit {0}}
    (MayRun (is_stopped c.args.hub.now) (buffers_of c.args.hub.now c.args.token))
    (g.S.Stream.is_steady (stream_of c.args.peer.now) ≡ true) (Err c.in_err-receive.field-0.0) c.args.users.now
    c.args.hub.now c.receive.new.hub (stream_of c.args.peer.now) (stream_of c.receive.new.peer) c.args.store.now
    (λ h. tt) (λ h. tt) tt c.in_err-receive.ensures.dropped)

pub returns-in_err-receive-clause-ends : goal.returns-in_err-receive-clause-ends
returns-in_err-receive-clause-ends g c =
    error_has _ c.from_residual.result c.in_err-receive.field-0.0 c.from_residual.ensures.1
    (memory_unended c.in_err-receive.field-0.0 _ c.in_err-receive.ensures.dropped.0)

pub returns-in_err-receive-clause-broken : goal.returns-in_err-receive-clause-broken
returns-in_err-receive-clause-broken g c = λ steady.
    error_has _ c.from_residual.result c.in_err-receive.field-0.0 c.from_residual.ensures.1
    (not_broken c.in_err-receive.field-0.0 _ c.in_err-receive.ensures.dropped.0 memory_apart)

-- ---- memory ran out for a line

pub returns-in_err-carry_out-clause-did : goal.returns-in_err-carry_out-clause-did
returns-in_err-carry_out-clause-did g c =
    subst (λ (r : Result (Unit {0}) Closing). Did {S = g.row.S.Denot} g.S.Read.remaining g.S.Write.contents
    (IsAt {g = g.C.Chains} {h = g.M.Marks} g.C.Chains.held g.M.Marks.marked) c.args.token
    (MayRun (is_stopped c.args.hub.now) (buffers_of c.args.hub.now c.args.token))
    (g.S.Stream.is_steady (stream_of c.args.peer.now) ≡ true) r c.args.users.now c.args.hub.now (stream_of c.args.peer.now)
    c.args.store.now c.carry_out.new.users c.carry_out.new.hub (stream_of c.receive.new.peer) c.carry_out.new.store)
    (sym (same_error c.from_residual-in_err-carry_out.result c.in_err-carry_out.field-0.0 c.from_residual-in_err-carry_out.ensures.1))
    (did_carried {S = g.row.S.Denot} g.S.Read.remaining g.S.Write.contents
    (IsAt {g = g.C.Chains} {h = g.M.Marks} g.C.Chains.held g.M.Marks.marked) c.args.token c.args.users.now
    c.carry_out.new.users c.args.hub.now c.receive.new.hub c.carry_out.new.hub (stream_of c.args.peer.now)
    (stream_of c.receive.new.peer) c.args.store.now c.carry_out.new.store c.in_ok-receive.ensures.received
    c.receive.ensures.idle {A = Unit {0}} (g.S.Stream.is_steady (stream_of c.args.peer.now) ≡ true)
    (Err c.in_err-carry_out.field-0.0) (λ h. tt) c.in_err-carry_out.ensures.carried)

pub returns-in_err-carry_out-clause-ends : goal.returns-in_err-carry_out-clause-ends
returns-in_err-carry_out-clause-ends g c =
    error_has _ c.from_residual-in_err-carry_out.result c.in_err-carry_out.field-0.0 c.from_residual-in_err-carry_out.ensures.1
    (memory_unended c.in_err-carry_out.field-0.0 _ c.in_err-carry_out.ensures.memory)

pub returns-in_err-carry_out-clause-broken : goal.returns-in_err-carry_out-clause-broken
returns-in_err-carry_out-clause-broken g c = λ steady.
    error_has _ c.from_residual-in_err-carry_out.result c.in_err-carry_out.field-0.0 c.from_residual-in_err-carry_out.ensures.1
    (not_broken c.in_err-carry_out.field-0.0 _ c.in_err-carry_out.ensures.memory memory_apart)

-- ---- a write failed

pub returns-in_err-send-clause-did : goal.returns-in_err-send-clause-did
returns-in_err-send-clause-did g c =
    subst (λ (r : Result (Unit {0}) Closing). Did {S = g.row.S.Denot} g.S.Read.remaining g.S.Write.contents
    (IsAt {g = g.C.Chains} {h = g.M.Marks} g.C.Chains.held g.M.Marks.marked) c.args.token
    (MayRun (is_stopped c.args.hub.now) (buffers_of c.args.hub.now c.args.token))
    (g.S.Stream.is_steady (stream_of c.args.peer.now) ≡ true) r c.args.users.now c.args.hub.now (stream_of c.args.peer.now)
    c.args.store.now c.carry_out.new.users c.send.new.hub (stream_of c.send.new.peer) c.carry_out.new.store)
    (sym (same_error c.from_residual-in_err-send.result c.in_err-send.field-0.0 c.from_residual-in_err-send.ensures.1))
    (did_sent {S = g.row.S.Denot} g.S.Read.remaining g.S.Write.contents
    (IsAt {g = g.C.Chains} {h = g.M.Marks} g.C.Chains.held g.M.Marks.marked) c.args.token c.args.users.now
    c.carry_out.new.users c.args.hub.now c.receive.new.hub c.carry_out.new.hub (stream_of c.args.peer.now)
    (stream_of c.receive.new.peer) c.args.store.now c.carry_out.new.store c.in_ok-receive.ensures.received
    c.receive.ensures.idle {A = Unit {0}} (g.S.Stream.is_steady (stream_of c.args.peer.now) ≡ true)
    (Err c.in_err-send.field-0.0) c.send.new.hub (stream_of c.send.new.peer) c.in_ok-carry_out.ensures.carried tt
    c.in_err-send.ensures.broken tt)

pub returns-in_err-send-clause-ends : goal.returns-in_err-send-clause-ends
returns-in_err-send-clause-ends g c =
    error_has _ c.from_residual-in_err-send.result c.in_err-send.field-0.0 c.from_residual-in_err-send.ensures.1
    (broken_unended c.in_err-send.field-0.0 _ c.in_err-send.ensures.broken.0)

pub returns-in_err-send-clause-broken : goal.returns-in_err-send-clause-broken
returns-in_err-send-clause-broken g c = λ steady.
    absurd (c.in_err-send.ensures.steady refl (c.receive.ensures.steady steady))

pub returns-in_err-send-clause-reads : goal.returns-in_err-send-clause-reads
returns-in_err-send-clause-reads g c = λ steady may more.
    has_read_on {S = g.row.S.Denot} g.S.Read.remaining (stream_of c.args.peer.now) (stream_of c.receive.new.peer)
    (stream_of c.send.new.peer) (input_of c.receive.new.peer) (input_of c.send.new.peer) c.send.ensures.apart
    c.send.ensures.input (c.receive.ensures.reads steady may more)

pub returns-in_err-send-clause-at_end : goal.returns-in_err-send-clause-at_end
returns-in_err-send-clause-at_end g c = λ room ended.
    at_end_on (input_of c.args.peer.now ≡ Ended) (g.S.Read.remaining (stream_of c.receive.new.peer))
    (g.S.Read.remaining (stream_of c.send.new.peer)) c.send.ensures.apart
    (c.receive.ensures.at_end room (sym c.send.ensures.input ∙ ended))

pub returns-in_err-send-clause-failed : goal.returns-in_err-send-clause-failed
returns-in_err-send-clause-failed g c = λ steady failed.
    c.receive.ensures.failed steady (sym c.send.ensures.input ∙ failed)

-- ---- the end

pub returns-clause-did : goal.returns-clause-did
returns-clause-did g c =
    did_all {S = g.row.S.Denot} g.S.Read.remaining g.S.Write.contents
    (IsAt {g = g.C.Chains} {h = g.M.Marks} g.C.Chains.held g.M.Marks.marked) c.args.token c.args.users.now c.carry_out.new.users c.args.hub.now c.receive.new.hub c.carry_out.new.hub
    (stream_of c.args.peer.now) (stream_of c.receive.new.peer) c.args.store.now c.carry_out.new.store
    c.in_ok-receive.ensures.received c.receive.ensures.idle (g.S.Stream.is_steady (stream_of c.args.peer.now) ≡ true) c.end_if_done.result c.send.new.hub
    c.end_if_done.new.hub (stream_of c.send.new.peer) (stream_of c.end_if_done.new.peer) c.in_ok-carry_out.ensures.carried
    c.in_ok-send.ensures.written (λ steady. c.in_ok-send.ensures.all (c.receive.ensures.steady steady))
    c.end_if_done.ensures.stream c.end_if_done.ensures.open _ c.end_if_done.ensures.finished

pub returns-clause-reads : goal.returns-clause-reads
returns-clause-reads g c = λ steady may more.
    has_read_on {S = g.row.S.Denot} g.S.Read.remaining (stream_of c.args.peer.now) (stream_of c.receive.new.peer)
    (stream_of c.end_if_done.new.peer) (input_of c.receive.new.peer) (input_of c.end_if_done.new.peer)
    (ap g.S.Read.remaining c.end_if_done.ensures.stream ∙ c.send.ensures.apart)
    (c.end_if_done.ensures.input ∙ c.send.ensures.input) (c.receive.ensures.reads steady may more)

pub returns-clause-ends : goal.returns-clause-ends
returns-clause-ends g c = if_ended c.end_if_done.result _ _ c.end_if_done.ensures.finished

pub returns-clause-at_end : goal.returns-clause-at_end
returns-clause-at_end g c = λ room ended.
    at_end_on (input_of c.args.peer.now ≡ Ended) (g.S.Read.remaining (stream_of c.receive.new.peer))
    (g.S.Read.remaining (stream_of c.end_if_done.new.peer))
    (ap g.S.Read.remaining c.end_if_done.ensures.stream ∙ c.send.ensures.apart)
    (c.receive.ensures.at_end room (sym c.send.ensures.input ∙ (sym c.end_if_done.ensures.input ∙ ended)))

pub returns-clause-failed : goal.returns-clause-failed
returns-clause-failed g c = λ steady failed.
    c.receive.ensures.failed steady (sym c.send.ensures.input ∙ (sym c.end_if_done.ensures.input ∙ failed))

pub returns-clause-broken : goal.returns-clause-broken
returns-clause-broken g c = λ steady. ended_unbroken c.end_if_done.result _ _ c.end_if_done.ensures.finished

pub returns-clause-due : goal.returns-clause-due
returns-clause-due g c = c.end_if_done.ensures.due

pub returns-clause-closed : goal.returns-clause-closed
returns-clause-closed g c = c.end_if_done.ensures.closed
