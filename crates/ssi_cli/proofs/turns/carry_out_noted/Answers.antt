use Rattle.std.proofs.Common.{◌≡◌, ◌<◌, ◌+◌, ℕ, zero, suc, Result, Ok, Err, Some, refl, sym, subst, arith, ◌⊎◌, inl, inr}
use Rattle.ssi_store.specs.Mirror.Stores.{IsAt}
use Rattle.ssi_hub.specs.declared.hub.Hub.{Hub}
use Rattle.ssi_hub.specs.Mirror.{buffers_of, is_stopped}
use Rattle.ssi_cli.specs.declared.closing.Closing.{Closing}
use Rattle.ssi_cli.specs.Clauses.Turns.{MayRun, Carried}
use Rattle.ssi_cli.proofs.Turning.{carried_none, carried_if, carried_both, cant_run, same_error}
use Rattle.ssi_cli.proofs.turns.carry_out_noted.Goals as goal

-- at first the hub is as it was, and later a line has been carried out
first_or_later : (n t : ℕ) (old hub : Hub) → (n ≡ 0 → hub ≡ old) → MayRun (is_stopped old) (buffers_of old t)
    → (MayRun (is_stopped old) (buffers_of old t) × (0 < n)) ⊎ MayRun (is_stopped hub) (buffers_of hub t)
first_or_later zero t old hub same may =
    inr (subst (λ (h : Hub). MayRun (is_stopped h) (buffers_of h t)) (sym (same refl)) may)
first_or_later (suc n) t old hub same may = inl (may, omega arith)

later : (n t : ℕ) (old hub : Hub) → (n ≡ 0 → hub ≡ old) → (MayRun (is_stopped hub) (buffers_of hub t) → ⊥)
    → MayRun (is_stopped old) (buffers_of old t) → MayRun (is_stopped old) (buffers_of old t) × (0 < n)
later zero t old hub same cant may =
    absurd (cant (subst (λ (h : Hub). MayRun (is_stopped h) (buffers_of h t)) (sym (same refl)) may))
later (suc n) t old hub same cant may = (may, omega arith)

pub loop-count-init : goal.loop-count-init
loop-count-init g c = record {
  none = λ e. refl;
  carried = carried_none (IsAt {g = g.C.Chains} {h = g.M.Marks} g.C.Chains.held g.M.Marks.marked) c.args.token {A = Unit {0}}
      (MayRun (is_stopped c.args.hub.now) (buffers_of c.args.hub.now c.args.token) × (0 < 0)) tt (Some c.args.users.now)
      c.args.hub.now c.args.store.now (λ h. absurd (omega (arith, h.1)));
}

pub returns-then-not-wants_run-clause-carried : goal.returns-then-not-wants_run-clause-carried
returns-then-not-wants_run-clause-carried g c =
    carried_if (IsAt {g = g.C.Chains} {h = g.M.Marks} g.C.Chains.held g.M.Marks.marked) c.args.token {A = Unit {0}}
    (MayRun (is_stopped c.args.hub.now) (buffers_of c.args.hub.now c.args.token))
    (MayRun (is_stopped c.args.hub.now) (buffers_of c.args.hub.now c.args.token) × (0 < c.loop-count._count)) (Ok tt)
    (Some c.args.users.now) (Some c.loop-count.users) c.args.hub.now c.loop-count.hub c.args.store.now c.loop-count.store
    (later c.loop-count._count c.args.token c.args.hub.now c.loop-count.hub c.loop-count.invariant.none
    (cant_run (is_stopped c.loop-count.hub) (buffers_of c.loop-count.hub c.args.token) c.wants_run.result
    c.wants_run.ensures c.if-not-wants_run.true))
    c.loop-count.invariant.carried

pub returns-in_err-carry_out_line-clause-carried : goal.returns-in_err-carry_out_line-clause-carried
returns-in_err-carry_out_line-clause-carried g c =
    subst (λ (r : Result (Unit {0}) Closing). Carried (IsAt {g = g.C.Chains} {h = g.M.Marks} g.C.Chains.held g.M.Marks.marked)
    c.args.token (MayRun (is_stopped c.args.hub.now) (buffers_of c.args.hub.now c.args.token)) r (Some c.args.users.now)
    c.args.hub.now c.args.store.now (Some c.carry_out_line.new.users) c.carry_out_line.new.hub c.carry_out_line.new.store)
    (sym (same_error c.from_residual.result c.in_err-carry_out_line.field-0.0 c.from_residual.ensures.1))
    (carried_both (IsAt {g = g.C.Chains} {h = g.M.Marks} g.C.Chains.held g.M.Marks.marked) c.args.token
    {A = Unit {0}} {B = Unit {0}} (MayRun (is_stopped c.args.hub.now) (buffers_of c.args.hub.now c.args.token))
    (MayRun (is_stopped c.args.hub.now) (buffers_of c.args.hub.now c.args.token) × (0 < c.loop-count._count))
    (MayRun (is_stopped c.loop-count.hub) (buffers_of c.loop-count.hub c.args.token)) tt
    (Err c.in_err-carry_out_line.field-0.0) (Some c.args.users.now) (Some c.loop-count.users)
    (Some c.carry_out_line.new.users) c.args.hub.now c.loop-count.hub c.carry_out_line.new.hub c.args.store.now
    c.loop-count.store c.carry_out_line.new.store
    (first_or_later c.loop-count._count c.args.token c.args.hub.now c.loop-count.hub c.loop-count.invariant.none)
    c.loop-count.invariant.carried c.in_err-carry_out_line.ensures.carried)

pub loop-count-preserved : goal.loop-count-preserved
loop-count-preserved g c = record {
  none = λ e. absurd (omega (arith, e));
  carried =
      carried_if (IsAt {g = g.C.Chains} {h = g.M.Marks} g.C.Chains.held g.M.Marks.marked) c.args.token {A = Unit {0}}
      (MayRun (is_stopped c.args.hub.now) (buffers_of c.args.hub.now c.args.token) × (0 < c.loop-count._count + 1))
      (MayRun (is_stopped c.args.hub.now) (buffers_of c.args.hub.now c.args.token)) (Ok tt)
      (Some c.args.users.now) (Some c.carry_out_line.new.users) c.args.hub.now c.carry_out_line.new.hub c.args.store.now
      c.carry_out_line.new.store (λ h. h.0)
      (carried_both (IsAt {g = g.C.Chains} {h = g.M.Marks} g.C.Chains.held g.M.Marks.marked) c.args.token {A = Unit {0}} {B = Unit {0}}
      (MayRun (is_stopped c.args.hub.now) (buffers_of c.args.hub.now c.args.token))
      (MayRun (is_stopped c.args.hub.now) (buffers_of c.args.hub.now c.args.token) × (0 < c.loop-count._count))
      (MayRun (is_stopped c.loop-count.hub) (buffers_of c.loop-count.hub c.args.token)) tt (Ok tt)
      (Some c.args.users.now) (Some c.loop-count.users) (Some c.carry_out_line.new.users) c.args.hub.now c.loop-count.hub
      c.carry_out_line.new.hub c.args.store.now c.loop-count.store c.carry_out_line.new.store
      (first_or_later c.loop-count._count c.args.token c.args.hub.now c.loop-count.hub c.loop-count.invariant.none)
      c.loop-count.invariant.carried c.in_ok-carry_out_line.ensures.carried);
}

pub returns-clause-carried : goal.returns-clause-carried
returns-clause-carried g c =
    carried_if (IsAt {g = g.C.Chains} {h = g.M.Marks} g.C.Chains.held g.M.Marks.marked) c.args.token {A = Unit {0}}
    (MayRun (is_stopped c.args.hub.now) (buffers_of c.args.hub.now c.args.token))
    (MayRun (is_stopped c.args.hub.now) (buffers_of c.args.hub.now c.args.token) × (0 < c.loop-count._count)) (Ok tt)
    (Some c.args.users.now) (Some c.loop-count.users) c.args.hub.now c.loop-count.hub c.args.store.now c.loop-count.store
    (λ may. (may, omega (arith, c.loop-count-test.false))) c.loop-count.invariant.carried
