use Rattle.std.proofs.Common.{◌≡◌, Option, Some, refl, sym, ◌∙◌, ap, subst}
use Rattle.std.specs.Prelude.{is_some}
use Rattle.ssi_cli.specs.declared.users.Users.{Users}
use Rattle.ssi_cli.specs.Mirror.{last_at}
use Rattle.ssi_data.specs.Clauses.Idling.{HasAbortedIdle}
use Rattle.ssi_data.proofs.Idling.{none_idle, more_idle}
use Rattle.ssi_data.proofs.idle.abort_all_of.Goals as goal

pub loop-init : goal.loop-init
loop-init g c = record {
  aborts = none_idle g.T.ProtocolStore.keeps g.T.AnyStore.is_at (λ s. last_at c.args.tables.now.times s ≡ Some c.args.second)
      c.args.tables.now.users c.args.server.now;
  times = λ s t e. e;
  clock = refl;
  table = refl;
}

pub returns-in_default-clause-aborts : goal.returns-in_default-clause-aborts
returns-in_default-clause-aborts g c =
    subst (λ (o : Option Users). HasAbortedIdle g.T.ProtocolStore.keeps g.T.AnyStore.is_at
    (λ s. last_at c.args.tables.now.times s ≡ Some c.args.second) c.args.tables.now.users o c.args.server.now c.loop.server)
    (sym c.next_at.ensures.users) c.loop.invariant.aborts

pub returns-in_err-abort-clause-aborts : goal.returns-in_err-abort-clause-aborts
returns-in_err-abort-clause-aborts g c =
    more_idle g.T.ProtocolStore.keeps g.T.AnyStore.is_at (λ s. last_at c.args.tables.now.times s ≡ Some c.args.second)
    (λ s. s ≡ c.in-Some.session) c.args.tables.now.users c.loop.tables.users c.abort.new.tables.users c.args.server.now c.loop.server
    c.abort.new.server
    (λ s e. subst (λ u. last_at c.args.tables.now.times u ≡ Some c.args.second) (sym e)
    (c.loop.invariant.times c.in-Some.session c.args.second c.in-Some.ensures.some))
    c.loop.invariant.aborts
    (subst (λ (o : Option Users). HasAbortedIdle g.T.ProtocolStore.keeps g.T.AnyStore.is_at (λ s. s ≡ c.in-Some.session) o
    c.abort.new.tables.users c.loop.server c.abort.new.server) c.next_at.ensures.users c.abort.ensures.aborts)

pub returns-then-not-branch-clause-aborts : goal.returns-then-not-branch-clause-aborts
returns-then-not-branch-clause-aborts g c =
    more_idle g.T.ProtocolStore.keeps g.T.AnyStore.is_at (λ s. last_at c.args.tables.now.times s ≡ Some c.args.second)
    (λ s. s ≡ c.in-Some.session) c.args.tables.now.users c.loop.tables.users c.abort.new.tables.users c.args.server.now c.loop.server
    c.abort.new.server
    (λ s e. subst (λ u. last_at c.args.tables.now.times u ≡ Some c.args.second) (sym e)
    (c.loop.invariant.times c.in-Some.session c.args.second c.in-Some.ensures.some))
    c.loop.invariant.aborts
    (subst (λ (o : Option Users). HasAbortedIdle g.T.ProtocolStore.keeps g.T.AnyStore.is_at (λ s. s ≡ c.in-Some.session) o
    c.abort.new.tables.users c.loop.server c.abort.new.server) c.next_at.ensures.users c.abort.ensures.aborts)

pub loop-preserved : goal.loop-preserved
loop-preserved g c = record {
  aborts = subst (λ (o : Option Users). HasAbortedIdle g.T.ProtocolStore.keeps g.T.AnyStore.is_at
      (λ s. last_at c.args.tables.now.times s ≡ Some c.args.second) c.args.tables.now.users o c.args.server.now c.abort.new.server)
      (sym c.forget_time.ensures.users)
      (more_idle g.T.ProtocolStore.keeps g.T.AnyStore.is_at (λ s. last_at c.args.tables.now.times s ≡ Some c.args.second)
      (λ s. s ≡ c.in-Some.session) c.args.tables.now.users c.loop.tables.users c.abort.new.tables.users c.args.server.now
      c.loop.server c.abort.new.server
      (λ s e. subst (λ u. last_at c.args.tables.now.times u ≡ Some c.args.second) (sym e)
      (c.loop.invariant.times c.in-Some.session c.args.second c.in-Some.ensures.some))
      c.loop.invariant.aborts
      (subst (λ (o : Option Users). HasAbortedIdle g.T.ProtocolStore.keeps g.T.AnyStore.is_at (λ s. s ≡ c.in-Some.session) o
      c.abort.new.tables.users c.loop.server c.abort.new.server) c.next_at.ensures.users c.abort.ensures.aborts));
  times = λ s t e.
      c.loop.invariant.times s t
      (sym (c.next_at.ensures.times s) ∙ ap (λ (o : Option Users). last_at o s) (sym c.abort.ensures.times)
      ∙ c.forget_time.ensures.times s t e);
  clock = c.forget_time.ensures.clock ∙ c.abort.ensures.clock ∙ c.next_at.ensures.clock ∙ c.loop.invariant.clock;
  table = ap (λ (o : Option Users). is_some o) c.forget_time.ensures.users ∙ c.abort.ensures.table
      ∙ ap (λ (o : Option Users). is_some o) c.next_at.ensures.users ∙ c.loop.invariant.table;
}
