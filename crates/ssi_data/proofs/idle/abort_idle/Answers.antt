use Rattle.std.proofs.Common.{◌≡◌, ◌-◌, ◌<◌, ℕ, Some, ap, subst, ◌∙◌}
use Rattle.ssi_cli.specs.Mirror.{last_at}
use Rattle.ssi_data.specs.Clauses.Idling.{IsIdleSince}
use Rattle.ssi_data.proofs.Idling.{below, more_idle}
use Rattle.ssi_data.proofs.idle.abort_idle.Goals as goal

pub returns-in_err-abort_all_of-clause-aborts : goal.returns-in_err-abort_all_of-clause-aborts
returns-in_err-abort_all_of-clause-aborts g c =
    more_idle g.T.ProtocolStore.keeps g.T.AnyStore.is_at
    (IsIdleSince c.args.idle.now.limit c.args.tables.now.second c.args.tables.now.times)
    (λ s. last_at c.loop.tables.times s ≡ Some c.loop.idle.swept) c.args.tables.now.users c.loop.tables.users
    c.abort_all_of.new.tables.users c.args.server.now c.loop.server c.abort_all_of.new.server
    (λ s e. record {
      last = c.loop.idle.swept;
      had = c.loop.invariant.times s c.loop.idle.swept e;
      long = below c.loop.idle.swept c.args.idle.now.limit c.args.tables.now.second c.saturating_sub.result
          (c.saturating_sub.ensures ∙ ap (λ (m : ℕ). m - c.loop.idle.swept) c.loop.invariant.clock)
          (subst (λ (m : ℕ). m < c.saturating_sub.result) c.loop.invariant.limit c.if-saturating_sub-idle.false);
    })
    c.loop.invariant.aborts c.abort_all_of.ensures.aborts

pub returns-then-not-branch-clause-aborts : goal.returns-then-not-branch-clause-aborts
returns-then-not-branch-clause-aborts g c =
    more_idle g.T.ProtocolStore.keeps g.T.AnyStore.is_at
    (IsIdleSince c.args.idle.now.limit c.args.tables.now.second c.args.tables.now.times)
    (λ s. last_at c.loop.tables.times s ≡ Some c.loop.idle.swept) c.args.tables.now.users c.loop.tables.users
    c.abort_all_of.new.tables.users c.args.server.now c.loop.server c.abort_all_of.new.server
    (λ s e. record {
      last = c.loop.idle.swept;
      had = c.loop.invariant.times s c.loop.idle.swept e;
      long = below c.loop.idle.swept c.args.idle.now.limit c.args.tables.now.second c.saturating_sub.result
          (c.saturating_sub.ensures ∙ ap (λ (m : ℕ). m - c.loop.idle.swept) c.loop.invariant.clock)
          (subst (λ (m : ℕ). m < c.saturating_sub.result) c.loop.invariant.limit c.if-saturating_sub-idle.false);
    })
    c.loop.invariant.aborts c.abort_all_of.ensures.aborts

pub loop-preserved : goal.loop-preserved
loop-preserved g c = record {
  aborts =
      more_idle g.T.ProtocolStore.keeps g.T.AnyStore.is_at
      (IsIdleSince c.args.idle.now.limit c.args.tables.now.second c.args.tables.now.times)
      (λ s. last_at c.loop.tables.times s ≡ Some c.loop.idle.swept) c.args.tables.now.users c.loop.tables.users
      c.abort_all_of.new.tables.users c.args.server.now c.loop.server c.abort_all_of.new.server
      (λ s e. record {
        last = c.loop.idle.swept;
        had = c.loop.invariant.times s c.loop.idle.swept e;
        long = below c.loop.idle.swept c.args.idle.now.limit c.args.tables.now.second c.saturating_sub.result
            (c.saturating_sub.ensures ∙ ap (λ (m : ℕ). m - c.loop.idle.swept) c.loop.invariant.clock)
            (subst (λ (m : ℕ). m < c.saturating_sub.result) c.loop.invariant.limit c.if-saturating_sub-idle.false);
      })
      c.loop.invariant.aborts c.abort_all_of.ensures.aborts;
  times = λ s t e. c.loop.invariant.times s t (c.abort_all_of.ensures.times s t e);
  clock = c.abort_all_of.ensures.clock ∙ c.loop.invariant.clock;
  limit = c.loop.invariant.limit;
  table = c.abort_all_of.ensures.table ∙ c.loop.invariant.table;
}
