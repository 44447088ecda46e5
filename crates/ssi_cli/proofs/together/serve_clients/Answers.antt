use Rattle.std.proofs.Common.{◌∙◌, sym}
use Rattle.ssi_store.specs.Mirror.Stores.{IsAt}
use Rattle.ssi_cli.proofs.HubRuns.{not_run, run_then_called, run_both}
use Rattle.ssi_cli.proofs.together.serve_clients.Goals as goal

pub loop-init : goal.loop-init
loop-init g c = (
  not_run (IsAt {g = g.C.Chains} {h = g.M.Marks} g.C.Chains.held g.M.Marks.marked) c.args.clients.now.hub c.args.store.now,
  c.requires,
)

pub returns-then-is_stopped-clause-run : goal.returns-then-is_stopped-clause-run
returns-then-is_stopped-clause-run g c =
    let run =
    run_both (IsAt {g = g.C.Chains} {h = g.M.Marks} g.C.Chains.held g.M.Marks.marked) c.args.clients.now.hub
    c.loop.clients.hub c.round.new.self.hub c.args.store.now c.loop.store c.round.new.store c.loop.invariant.0 c.round.ensures.run in
    let accepted =
    run_then_called (IsAt {g = g.C.Chains} {h = g.M.Marks} g.C.Chains.held g.M.Marks.marked) c.args.clients.now.hub
    c.round.new.self.hub c.accept.new.self.hub c.args.store.now c.round.new.store run c.accept.ensures.called in
    run_then_called (IsAt {g = g.C.Chains} {h = g.M.Marks} g.C.Chains.held g.M.Marks.marked) c.args.clients.now.hub
    c.accept.new.self.hub c.part_all.new.self.hub c.args.store.now c.round.new.store accepted c.part_all.ensures.called

pub returns-then-is_stopped-clause-ends : goal.returns-then-is_stopped-clause-ends
returns-then-is_stopped-clause-ends g c = c.part_all.ensures.called.stopped ∙ sym c.is_stopped.ensures ∙ c.if-is_stopped.true

pub loop-preserved : goal.loop-preserved
loop-preserved g c =
    let run =
    run_both (IsAt {g = g.C.Chains} {h = g.M.Marks} g.C.Chains.held g.M.Marks.marked) c.args.clients.now.hub
    c.loop.clients.hub c.round.new.self.hub c.args.store.now c.loop.store c.round.new.store c.loop.invariant.0 c.round.ensures.run in (
      run_then_called (IsAt {g = g.C.Chains} {h = g.M.Marks} g.C.Chains.held g.M.Marks.marked) c.args.clients.now.hub
          c.round.new.self.hub c.accept.new.self.hub c.args.store.now c.round.new.store run c.accept.ensures.called,
      sym c.is_stopped.ensures ∙ c.if-is_stopped.false,
    )
