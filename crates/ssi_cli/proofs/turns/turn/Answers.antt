use Rattle.std.proofs.Common.{◌≡◌, true, sym, ap, subst}
use Rattle.ssi_store.specs.Mirror.Stores.{IsAt}
use Rattle.ssi_hub.specs.Mirror.{buffers_of, is_stopped}
use Rattle.ssi_cli.specs.Clauses.Turns.{MayRun, Turned}
use Rattle.ssi_cli.specs.Mirror.{stream_of, input_of}
use Rattle.ssi_cli.proofs.HubRuns.{run_both}
use Rattle.ssi_cli.proofs.Turning.{did_run, has_read_on}
use Rattle.ssi_cli.proofs.Deeds.{turned_open, turned_gone}
use Rattle.ssi_cli.proofs.turns.turn.Goals as goal

pub returns-then-not-is_open-clause-run : goal.returns-then-not-is_open-clause-run
returns-then-not-is_open-clause-run g c =
    run_both (IsAt {g = g.C.Chains} {h = g.M.Marks} g.C.Chains.held g.M.Marks.marked) c.args.hub.now c.serve-served.new.hub
    c.abort_all-done.new.hub c.args.store.now c.serve-served.new.store c.abort_all-done.new.store
    (did_run {S = g.row.S.Denot} g.S.Read.remaining g.S.Write.contents
    (IsAt {g = g.C.Chains} {h = g.M.Marks} g.C.Chains.held g.M.Marks.marked) c.args.token
    (MayRun (is_stopped c.args.hub.now) (buffers_of c.args.hub.now c.args.token))
    (g.S.Stream.is_steady (stream_of c.args.peer.now) ≡ true) c.serve-served.result c.args.users.now
    c.serve-served.new.users c.args.hub.now c.serve-served.new.hub (stream_of c.args.peer.now)
    (stream_of c.serve-served.new.peer) c.args.store.now c.serve-served.new.store c.serve-served.ensures.did)
    c.abort_all-done.ensures.run

pub returns-then-not-is_open-clause-turned : goal.returns-then-not-is_open-clause-turned
returns-then-not-is_open-clause-turned g c =
    subst (λ (z : g.row.S.Denot). Turned {S = g.row.S.Denot} g.S.Read.remaining g.S.Write.contents
    (IsAt {g = g.C.Chains} {h = g.M.Marks} g.C.Chains.held g.M.Marks.marked) c.args.token
    (g.S.Stream.is_steady (stream_of c.args.peer.now) ≡ true) c.serve-served.result c.args.users.now c.args.hub.now
    (stream_of c.args.peer.now) c.args.store.now c.abort_all-done.new.users c.abort_all-done.new.hub z
    c.abort_all-done.new.store)
    (sym c.set_due.ensures.stream)
    (turned_gone {S = g.row.S.Denot} g.S.Read.remaining g.S.Write.contents
    (IsAt {g = g.C.Chains} {h = g.M.Marks} g.C.Chains.held g.M.Marks.marked) c.args.token
    (g.S.Stream.is_steady (stream_of c.args.peer.now) ≡ true) c.serve-served.result c.args.users.now
    c.serve-served.new.users c.abort_all-done.new.users c.args.hub.now c.serve-served.new.hub c.abort_all-done.new.hub
    (stream_of c.args.peer.now) (stream_of c.serve-served.new.peer) c.args.store.now c.serve-served.new.store
    c.abort_all-done.new.store c.serve-served.ensures.table c.abort_all-done.ensures.table c.is_open.result c.is_open.ensures
    c.if-not-is_open.true c.serve-served.ensures.did c.abort_all-done.ensures.aborts c.abort_all-done.ensures.forgets)

pub returns-then-not-is_open-clause-reads : goal.returns-then-not-is_open-clause-reads
returns-then-not-is_open-clause-reads g c = λ steady may more.
    has_read_on {S = g.row.S.Denot} g.S.Read.remaining (stream_of c.args.peer.now) (stream_of c.serve-served.new.peer)
    (stream_of c.set_due.new.self) (input_of c.serve-served.new.peer) (input_of c.set_due.new.self)
    (ap g.S.Read.remaining c.set_due.ensures.stream) c.set_due.ensures.input
    (c.serve-served.ensures.reads steady may more)

pub returns-else-not-is_open-clause-run : goal.returns-else-not-is_open-clause-run
returns-else-not-is_open-clause-run g c =
    did_run {S = g.row.S.Denot} g.S.Read.remaining g.S.Write.contents
    (IsAt {g = g.C.Chains} {h = g.M.Marks} g.C.Chains.held g.M.Marks.marked) c.args.token
    (MayRun (is_stopped c.args.hub.now) (buffers_of c.args.hub.now c.args.token))
    (g.S.Stream.is_steady (stream_of c.args.peer.now) ≡ true) c.serve-served.result c.args.users.now
    c.serve-served.new.users c.args.hub.now c.serve-served.new.hub (stream_of c.args.peer.now)
    (stream_of c.serve-served.new.peer) c.args.store.now c.serve-served.new.store c.serve-served.ensures.did

pub returns-else-not-is_open-clause-turned : goal.returns-else-not-is_open-clause-turned
returns-else-not-is_open-clause-turned g c =
    turned_open {S = g.row.S.Denot} g.S.Read.remaining g.S.Write.contents
    (IsAt {g = g.C.Chains} {h = g.M.Marks} g.C.Chains.held g.M.Marks.marked) c.args.token
    (g.S.Stream.is_steady (stream_of c.args.peer.now) ≡ true) c.serve-served.result c.args.users.now
    c.serve-served.new.users c.serve-served.new.users c.args.hub.now c.serve-served.new.hub c.serve-served.new.hub
    (stream_of c.args.peer.now) (stream_of c.serve-served.new.peer) c.args.store.now c.serve-served.new.store
    c.serve-served.new.store c.serve-served.ensures.table c.serve-served.ensures.did
