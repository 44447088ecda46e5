use Rattle.std.proofs.Common.{rules, ◌≡◌, Some, ◌∙◌}
use Rattle.lemmas.proofs.Steps.{drop_step}
use Rattle.ssi_conflict.proofs.KeyIndex.{put_step, drop_within, others_kept}
use Rattle.ssi_conflict.proofs.writes.Writes.add.Goals as goal
use Rattle.ssi_conflict.specs.Machinery.Index.{writer_in}

pub loop-key-preserved : goal.loop-key-preserved
loop-key-preserved c =
    put_step c.key-item.result _ _ c.args.keys.now c.args.before (Some c.args.txn) (writer_in c.args.self.now)
    (writer_in c.loop-key.self) _
    (drop_step c.args.keys.now c.loop-key.key-index c.key-item.result c.loop-key-test.true c.key-item.is)
    (λ k a. c.in_ok-insert.ensures.updates.0 (record { key = k; before = a })) c.loop-key.invariant

pub returns-in_err-insert-clause-others : goal.returns-in_err-insert-clause-others
returns-in_err-insert-clause-others c k a none =
    let same : writer_in (record { writers = c.insert.new.self }) k a ≡ writer_in c.loop-key.self k a = search rules in
    same ∙ others_kept _ c.args.keys.now c.args.before (Some c.args.txn) (writer_in c.args.self.now)
    (writer_in c.loop-key.self) k a
    (drop_within c.loop-key.key-index c.args.keys.now) (c.loop-key.invariant k a) none
