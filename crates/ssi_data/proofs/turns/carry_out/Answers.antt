use Rattle.std.proofs.Common.{◌≡◌, ◌∙◌, ◌<◌, ◌+◌, ℕ, zero, suc, refl, sym, subst, arith, inr}
use Rattle.sqlite_disk.specs.declared.Disk.{Ghosts}
use Rattle.ssi_hub.specs.Mirror.{buffers_of, is_stopped}
use Rattle.ssi_durable.specs.declared.server.Server.{Server}
use Rattle.ssi_durable.specs.Mirror.Servers.{hub_of}
use Rattle.ssi_cli.specs.Clauses.Turns.{MayRun}
use Rattle.ssi_data.proofs.Makings.{open_by}
use Rattle.ssi_data.proofs.Turning.{carried_none, carried_if, carried_both, cant_run, if_passed, of_ok, of_err}
use Rattle.ssi_data.proofs.turns.carry_out.Goals as goal

-- at first the server is as it was, and later a line has been carried out
later : {T D : Type 0} {disk : Ghosts D} (n t : ℕ) (old server : Server T D disk)
    → (n ≡ 0 → server ≡ old) → (MayRun (is_stopped (hub_of server)) (buffers_of (hub_of server) t) → ⊥)
    → MayRun (is_stopped (hub_of old)) (buffers_of (hub_of old) t)
    → MayRun (is_stopped (hub_of old)) (buffers_of (hub_of old) t) × (0 < n)
later {T} {D} {disk} zero t old server same cant may =
    absurd (cant (subst (λ (s : Server T D disk). MayRun (is_stopped (hub_of s)) (buffers_of (hub_of s) t)) (sym (same refl)) may))
later (suc n) t old server same cant may = (may, omega arith)

pub loop-count-init : goal.loop-count-init
loop-count-init g c = record {
  none = λ e. refl;
  carried = carried_none g.T.ProtocolStore.keeps g.T.AnyStore.is_at c.args.token
      (MayRun (is_stopped (hub_of c.args.server.now)) (buffers_of (hub_of c.args.server.now) c.args.token) × (0 < 0))
      c.args.tables.now c.args.server.now c.args.server.now (λ h. absurd (omega (arith, h.1))) (λ n began calls s. s);
  table = refl;
}

pub returns-then-not-wants_run-clause-carried : goal.returns-then-not-wants_run-clause-carried
returns-then-not-wants_run-clause-carried g c =
    let May = MayRun (is_stopped (hub_of c.args.server.now)) (buffers_of (hub_of c.args.server.now) c.args.token) in
    carried_if g.T.ProtocolStore.keeps g.T.AnyStore.is_at c.args.token May
    (May × (0 < c.loop-count._count)) c.args.tables.now c.loop-count.tables c.args.server.now c.loop-count.server
    (later c.loop-count._count c.args.token c.args.server.now c.loop-count.server c.loop-count.invariant.none
    (cant_run (is_stopped (hub_of c.loop-count.server)) (buffers_of (hub_of c.loop-count.server) c.args.token)
    c.wants_run.result c.wants_run.ensures c.if-not-wants_run.true))
    c.loop-count.invariant.carried

pub returns-in_err-carry_out_line-clause-carried : goal.returns-in_err-carry_out_line-clause-carried
returns-in_err-carry_out_line-clause-carried g c =
    let dumps = g.T.ProtocolStore.keeps in
    let is_at = g.T.AnyStore.is_at in
    let May = MayRun (is_stopped (hub_of c.args.server.now)) (buffers_of (hub_of c.args.server.now) c.args.token) in
    if_passed dumps is_at c.args.token c.from_residual.result May c.args.tables.now c.carry_out_line.new.tables c.args.server.now
    c.carry_out_line.new.server c.from_residual.ensures.0
    (carried_both dumps is_at c.args.token ⊥ (May × (0 < c.loop-count._count)) ⊥ c.args.tables.now c.loop-count.tables
    c.carry_out_line.new.tables c.args.server.now c.loop-count.server c.carry_out_line.new.server (λ h. absurd h)
    c.loop-count.invariant.carried
    (open_by dumps is_at _ c.loop-count.server c.args.token c.wants_run.result c.wants_run.ensures c.if-not-wants_run.false)
    (of_err dumps is_at c.args.token c.loop-count.tables c.carry_out_line.new.tables c.loop-count.server c.carry_out_line.new.server
    c.in_err-carry_out_line.ensures.carried))

pub loop-count-preserved : goal.loop-count-preserved
loop-count-preserved g c =
    let dumps = g.T.ProtocolStore.keeps in
    let is_at = g.T.AnyStore.is_at in
    let May = MayRun (is_stopped (hub_of c.args.server.now)) (buffers_of (hub_of c.args.server.now) c.args.token) in record {
      none = λ e. absurd (omega (arith, e));
      carried = carried_both dumps is_at c.args.token (May × (0 < c.loop-count._count + 1)) (May × (0 < c.loop-count._count)) (Unit {0})
          c.args.tables.now c.loop-count.tables c.carry_out_line.new.tables c.args.server.now c.loop-count.server
          c.carry_out_line.new.server (λ h. inr tt) c.loop-count.invariant.carried
          (open_by dumps is_at _ c.loop-count.server c.args.token c.wants_run.result c.wants_run.ensures c.if-not-wants_run.false)
          (of_ok dumps is_at c.args.token c.loop-count.tables c.carry_out_line.new.tables c.loop-count.server
          c.carry_out_line.new.server c.in_ok-carry_out_line.ensures.carried);
      table = c.in_ok-carry_out_line.ensures.table ∙ c.loop-count.invariant.table;
    }

pub returns-clause-carried : goal.returns-clause-carried
returns-clause-carried g c =
    let May = MayRun (is_stopped (hub_of c.args.server.now)) (buffers_of (hub_of c.args.server.now) c.args.token) in
    carried_if g.T.ProtocolStore.keeps g.T.AnyStore.is_at c.args.token May
    (May × (0 < c.loop-count._count)) c.args.tables.now c.loop-count.tables c.args.server.now c.loop-count.server
    (λ may. (may, omega (arith, c.loop-count-test.false))) c.loop-count.invariant.carried
