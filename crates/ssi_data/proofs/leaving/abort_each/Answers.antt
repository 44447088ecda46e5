use Rattle.std.proofs.Common.{◌≡◌, ◌∙◌, Some, nat_eq, sym, ap}
use Rattle.std.specs.Map.{lookup}
use Rattle.std.specs.Cmp.Lexicographic.{pointwise}
use Rattle.ssi_cli.specs.Mirror.{last_in}
use Rattle.ssi_data.proofs.Aborts.{none_aborted, one_more, still_last}
use Rattle.ssi_data.proofs.leaving.abort_each.Goals as goal

pub loop-init : goal.loop-init
loop-init g c = record {
  aborts = none_aborted g.T.ProtocolStore.keeps g.T.AnyStore.is_at
      (λ s. last_in c.args.users.now s ≡ Some c.args.token) c.args.server.now;
  forgets = λ s t e. e;
}

pub returns-clause-aborts : goal.returns-clause-aborts
returns-clause-aborts g c = c.loop.invariant.aborts

pub returns-clause-forgets : goal.returns-clause-forgets
returns-clause-forgets g c = c.loop.invariant.forgets

pub returns-in_default-clause-aborts : goal.returns-in_default-clause-aborts
returns-in_default-clause-aborts g c = c.loop.invariant.aborts

pub returns-in_default-clause-forgets : goal.returns-in_default-clause-forgets
returns-in_default-clause-forgets g c = λ s t e.
    c.loop.invariant.forgets s t
    (ap (λ m. lookup (pointwise nat_eq s) m.entries) (sym c.next_of.ensures.last ∙ sym c.remove.ensures) ∙ e)

pub loop-preserved : goal.loop-preserved
loop-preserved g c = record {
  aborts = one_more g.T.ProtocolStore.keeps g.T.AnyStore.is_at
      (λ s. last_in c.args.users.now s ≡ Some c.args.token) c.args.server.now c.loop.server c.abort.new.server
      c.in-Some.session c.abort.result (c.loop.invariant.forgets c.in-Some.session c.args.token c.in-Some.ensures.user)
      c.loop.invariant.aborts c.abort.ensures.aborted;
  forgets = λ s t. still_last (last_in c.next_of.new.self) (last_in c.forget.new.self) (last_in c.args.users.now) t
      c.in-Some.session
      (λ s e. c.loop.invariant.forgets s t
      (ap (λ m. lookup (pointwise nat_eq s) m.entries) (sym c.next_of.ensures.last) ∙ e))
      c.forget.ensures s;
}

pub returns-in_err-abort-clause-aborts : goal.returns-in_err-abort-clause-aborts
returns-in_err-abort-clause-aborts g c =
    one_more g.T.ProtocolStore.keeps g.T.AnyStore.is_at
    (λ s. last_in c.args.users.now s ≡ Some c.args.token) c.args.server.now c.loop.server c.abort.new.server
    c.in-Some.session c.abort.result (c.loop.invariant.forgets c.in-Some.session c.args.token c.in-Some.ensures.user)
    c.loop.invariant.aborts c.abort.ensures.aborted

pub returns-then-not-branch-clause-aborts : goal.returns-then-not-branch-clause-aborts
returns-then-not-branch-clause-aborts g c =
    one_more g.T.ProtocolStore.keeps g.T.AnyStore.is_at
    (λ s. last_in c.args.users.now s ≡ Some c.args.token) c.args.server.now c.loop.server c.abort.new.server
    c.in-Some.session c.abort.result (c.loop.invariant.forgets c.in-Some.session c.args.token c.in-Some.ensures.user)
    c.loop.invariant.aborts c.abort.ensures.aborted
