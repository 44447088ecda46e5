use Rattle.disk_testing.proofs.Left.{written_mixed, written_torn}
use Rattle.disk_testing.proofs.mixing.MixingDisk.write_at.Goals as goal

pub returns-then-is_err-clause-mixed : goal.returns-then-is_err-clause-mixed
returns-then-is_err-clause-mixed c = λ _ _.
    let was = c.args.self.now in
    written_mixed c.args.at c.args.bytes.now was.synced.items was.bytes.items c.overwrite.new.file.items was.grown c.overwrite.ensures.mixed

pub returns-then-is_err-clause-crash : goal.returns-then-is_err-clause-crash
returns-then-is_err-clause-crash c =
    let was = c.args.self.now in
    written_torn c.args.at c.args.bytes.now was.synced.items was.bytes.items c.overwrite.new.file.items was.grown c.overwrite.ensures.mixed

pub returns-clause-mixed : goal.returns-clause-mixed
returns-clause-mixed c = λ _ _.
    let was = c.args.self.now in
    written_mixed c.args.at c.args.bytes.now was.synced.items was.bytes.items c.overwrite.new.file.items was.grown c.overwrite.ensures.mixed

pub returns-clause-crash : goal.returns-clause-crash
returns-clause-crash c =
    let was = c.args.self.now in
    written_torn c.args.at c.args.bytes.now was.synced.items was.bytes.items c.overwrite.new.file.items was.grown c.overwrite.ensures.mixed
