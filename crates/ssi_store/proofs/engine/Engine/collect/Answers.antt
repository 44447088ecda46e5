use Rattle.std.proofs.Common.{◌+◌}
use Rattle.ssi_store.proofs.Collects.{above_kept, collected}
use Rattle.ssi_store.proofs.engine.Engine.collect.Goals as goal

pub returns : goal.returns
returns g c = record {
  stands = λ course st. collected st c.laws_below.ensures _ c.collect-versions.result
      c.open_snapshots.result.now c.open_snapshots.ensures c.collect-versions.ensures.count c.collect-versions.ensures.kept;
}

pub invariant_of-self-clause-above : goal.invariant_of-self-clause-above
invariant_of-self-clause-above g c =
    above_kept (c.args.self.now.commits + 1) c.open_snapshots.result.now _ _ c.args.self.now.above
    c.collect-versions.ensures.kept
