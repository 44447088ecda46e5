use Rattle.std.proofs.Common.{None}
use Rattle.lemmas.proofs.Steps.{drop_step}
use Rattle.ssi_conflict.proofs.KeyIndex.{put_step}
use Rattle.ssi_conflict.proofs.writes.Writes.remove.Goals as goal
use Rattle.ssi_conflict.specs.Machinery.Index.{writer_in}

pub loop-key-preserved : goal.loop-key-preserved
loop-key-preserved c =
    put_step c.key-item.result _ _ c.args.keys.now c.args.before None (writer_in c.args.self.now)
    (writer_in c.loop-key.self) _
    (drop_step c.args.keys.now c.loop-key.key-index c.key-item.result c.loop-key-test.true c.key-item.is)
    (λ k a. c.remove.ensures.updates.0 (record { key = k; before = a })) c.loop-key.invariant
