use Rattle.std.proofs.Common.{◌≡◌, ◌∙◌, Some, nat_eq, sym, ap}
use Rattle.std.specs.Map.{lookup}
use Rattle.std.specs.Cmp.Lexicographic.{pointwise}
use Rattle.ssi_store.specs.Mirror.Stores.{IsAt}
use Rattle.ssi_cli.specs.Mirror.{last_in}
use Rattle.ssi_cli.proofs.Aborts.{none_aborted, one_more, aborted_runs, still_last}
use Rattle.ssi_cli.proofs.leaving.abort_each.Goals as goal

pub loop-init : goal.loop-init
loop-init g c = (
  none_aborted (IsAt {g = g.C.Chains} {h = g.M.Marks} g.C.Chains.held g.M.Marks.marked)
      (λ s. last_in c.args.users.now s ≡ Some c.args.token) c.args.hub.now
      c.args.store.now,
  λ s t e. e,
  λ t none. none,
)

pub returns-clause-run : goal.returns-clause-run
returns-clause-run g c =
    aborted_runs (IsAt {g = g.C.Chains} {h = g.M.Marks} g.C.Chains.held g.M.Marks.marked)
    (λ s. last_in c.args.users.now s ≡ Some c.args.token) c.args.hub.now
    c.loop.hub c.args.store.now c.loop.store c.loop.invariant.0

pub returns-clause-aborts : goal.returns-clause-aborts
returns-clause-aborts g c = c.loop.invariant.0

pub returns-in_default-clause-run : goal.returns-in_default-clause-run
returns-in_default-clause-run g c =
    aborted_runs (IsAt {g = g.C.Chains} {h = g.M.Marks} g.C.Chains.held g.M.Marks.marked)
    (λ s. last_in c.args.users.now s ≡ Some c.args.token) c.args.hub.now
    c.loop.hub c.args.store.now c.loop.store c.loop.invariant.0

pub returns-in_default-clause-aborts : goal.returns-in_default-clause-aborts
returns-in_default-clause-aborts g c = c.loop.invariant.0

pub returns-then-not-abort-clause-aborts : goal.returns-then-not-abort-clause-aborts
returns-then-not-abort-clause-aborts g c =
    one_more (IsAt {g = g.C.Chains} {h = g.M.Marks} g.C.Chains.held g.M.Marks.marked)
    (λ s. last_in c.args.users.now s ≡ Some c.args.token) c.args.hub.now
    c.loop.hub c.abort.new.hub c.args.store.now c.loop.store c.abort.new.store c.in-Some.session
    (c.loop.invariant.1 c.in-Some.session c.args.token c.in-Some.ensures.user) c.loop.invariant.0 c.abort.ensures.aborted

pub returns-then-not-abort-clause-run : goal.returns-then-not-abort-clause-run
returns-then-not-abort-clause-run g c =
    aborted_runs (IsAt {g = g.C.Chains} {h = g.M.Marks} g.C.Chains.held g.M.Marks.marked)
    (λ s. last_in c.args.users.now s ≡ Some c.args.token) c.args.hub.now
    c.abort.new.hub c.args.store.now c.abort.new.store (returns-then-not-abort-clause-aborts g c)

pub loop-preserved : goal.loop-preserved
loop-preserved g c = (
  one_more (IsAt {g = g.C.Chains} {h = g.M.Marks} g.C.Chains.held g.M.Marks.marked)
      (λ s. last_in c.args.users.now s ≡ Some c.args.token) c.args.hub.now
      c.loop.hub c.abort.new.hub c.args.store.now c.loop.store c.abort.new.store c.in-Some.session
      (c.loop.invariant.1 c.in-Some.session c.args.token c.in-Some.ensures.user) c.loop.invariant.0 c.abort.ensures.aborted,
  λ s t. still_last (last_in c.next_of.new.self) (last_in c.forget.new.self) (last_in c.args.users.now) t c.in-Some.session
      (λ s e. c.loop.invariant.1 s t
      (ap (λ m. lookup (pointwise nat_eq s) m.entries) (sym c.next_of.ensures.last) ∙ e))
      c.forget.ensures s,
  λ t none. c.abort.ensures.gone t (c.loop.invariant.2 t none),
)

pub returns-clause-forgets : goal.returns-clause-forgets
returns-clause-forgets g c = c.loop.invariant.1

pub returns-in_default-clause-forgets : goal.returns-in_default-clause-forgets
returns-in_default-clause-forgets g c = λ s t e.
    c.loop.invariant.1 s t
    (ap (λ m. lookup (pointwise nat_eq s) m.entries) (sym c.next_of.ensures.last ∙ sym c.remove.ensures) ∙ e)

pub returns-then-not-abort-clause-forgets : goal.returns-then-not-abort-clause-forgets
returns-then-not-abort-clause-forgets g c = λ s t e.
    c.loop.invariant.1 s t (ap (λ m. lookup (pointwise nat_eq s) m.entries) (sym c.next_of.ensures.last) ∙ e)

pub returns-clause-gone : goal.returns-clause-gone
returns-clause-gone g c = c.loop.invariant.2

pub returns-in_default-clause-gone : goal.returns-in_default-clause-gone
returns-in_default-clause-gone g c = c.loop.invariant.2

pub returns-then-not-abort-clause-gone : goal.returns-then-not-abort-clause-gone
returns-then-not-abort-clause-gone g c = λ t none. c.abort.ensures.gone t (c.loop.invariant.2 t none)
