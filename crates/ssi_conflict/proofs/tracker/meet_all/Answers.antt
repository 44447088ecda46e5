use Rattle.std.proofs.Common.{arith, ◌≡◌, ◌+◌, ℕ, List, take, option_map, [], ◌∷◌, ◌++◌, subst, sym, ap, ◌∙◌}
use Rattle.std.proofs.lemmas.Grind.{common_steps}
use Rattle.ssi_conflict.proofs.CommitReaders.{meet_step}
use Rattle.ssi_conflict.specs.declared.table.Table.{Table}
use Rattle.ssi_conflict.proofs.tracker.meet_all.Goals as goal
use Rattle.ssi_conflict.specs.Machinery.Tables.{row_at, met_if}

pub loop-reader-preserved : goal.loop-reader-preserved
loop-reader-preserved c = (
  λ r.
      let w = c.args.writer.now in
      let i = c.loop-reader.reader-index in
      let more : take (i + 1) c.args.readers.now ≡ take i c.args.readers.now ++ c.reader-item.result ∷ [] =
      grind (arith, common_steps) in
      subst (λ (xs : List ℕ). row_at c.meet.new.self r ≡ option_map (met_if w.txn w.snapshot c.args.stamp xs r)
      (row_at c.args.table.now r)) (sym more)
      (meet_step w.txn w.snapshot c.args.stamp (take c.loop-reader.reader-index c.args.readers.now)
      c.reader-item.result (row_at c.args.table.now) (row_at c.loop-reader.table) (row_at c.meet.new.self)
      c.loop-reader.invariant.0 c.meet.ensures.rows r),
  (let put : Table → Table = λ m. record m { records = c.meet.new.self.records } in
      c.meet.ensures.rest ∙ ap put
      c.loop-reader.invariant.1),
)
