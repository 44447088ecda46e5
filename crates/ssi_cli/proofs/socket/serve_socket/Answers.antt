use Rattle.std.proofs.Common.{◌≡◌, ◌∙◌, ℕ, ◌≤◌, arith, sym}
use Rattle.ssi_store.specs.Mirror.Stores.{IsAt}
use Rattle.ssi_cli.proofs.InTurn.{none_yet, one_more, stopped, failed, full}
use Rattle.ssi_cli.proofs.socket.serve_socket.Goals as goal

most : (count : ℕ) → count ≤ 4294967295 → 4294967295 ≤ count → count ≡ 4294967295
most count high low = omega arith

pub loop-count-init : goal.loop-count-init
loop-count-init g c = none_yet g.L.Reader.Read.remaining g.L.Reader.Source.is_failed g.L.Writer.Write.contents
    g.L.Listener.accepts g.L.Listener.closes g.L.Listener.fails
    (IsAt {g = g.C.Chains} {h = g.M.Marks} g.C.Chains.held g.M.Marks.marked) c.args.listener.now c.args.store.now

pub returns-in_default : goal.returns-in_default
returns-in_default g c =
    let (fails, kept) = c.serve_next.ensures.failed c.in_default.is in
    failed g.L.Reader.Read.remaining g.L.Reader.Source.is_failed g.L.Writer.Write.contents g.L.Listener.accepts
    g.L.Listener.closes g.L.Listener.fails (IsAt {g = g.C.Chains} {h = g.M.Marks} g.C.Chains.held g.M.Marks.marked)
    c.args.listener.now c.args.store.now c.loop-count.listener c.serve_next.new.listener c.loop-count.store
    c.serve_next.new.store c.loop-count._count c.loop-count.invariant fails kept

pub returns-then-is_stop : goal.returns-then-is_stop
returns-then-is_stop g c =
    let (connection, ends, before, after, went) = c.in-Some.ensures.served in
    stopped g.L.Reader.Read.remaining g.L.Reader.Source.is_failed g.L.Writer.Write.contents g.L.Listener.accepts
    g.L.Listener.closes g.L.Listener.fails (IsAt {g = g.C.Chains} {h = g.M.Marks} g.C.Chains.held g.M.Marks.marked)
    c.args.listener.now c.args.store.now c.loop-count.listener c.serve_next.new.listener c.loop-count.store
    c.serve_next.new.store c.loop-count._count c.loop-count.invariant connection
    (ends ∙ c.is_stop.ensures.stops c.if-is_stop.true) before after went

pub loop-count-preserved : goal.loop-count-preserved
loop-count-preserved g c =
    let (connection, ends, before, after, went) = c.in-Some.ensures.served in
    one_more g.L.Reader.Read.remaining g.L.Reader.Source.is_failed g.L.Writer.Write.contents g.L.Listener.accepts
    g.L.Listener.closes g.L.Listener.fails (IsAt {g = g.C.Chains} {h = g.M.Marks} g.C.Chains.held g.M.Marks.marked)
    c.args.listener.now c.args.store.now c.loop-count.listener c.serve_next.new.listener c.loop-count.store
    c.serve_next.new.store c.loop-count._count c.loop-count.invariant connection
    (λ stops. c.is_stop.ensures.goes_on c.if-is_stop.false (sym ends ∙ stops)) before after went

pub returns : goal.returns
returns g c =
    full g.L.Reader.Read.remaining g.L.Reader.Source.is_failed g.L.Writer.Write.contents g.L.Listener.accepts
    g.L.Listener.closes g.L.Listener.fails (IsAt {g = g.C.Chains} {h = g.M.Marks} g.C.Chains.held g.M.Marks.marked)
    c.args.listener.now c.args.store.now c.loop-count.listener c.loop-count.store c.loop-count._count
    c.loop-count.invariant (most c.loop-count._count c.loop-count.auto._count-end c.loop-count-test.false)
