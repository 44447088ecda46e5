use Rattle.std.proofs.Common.{arith, ◌-◌}
use Rattle.ssi_recorder.proofs.recorder.Recorder.abort.Goals as goal

pub invariant_of-self : goal.invariant_of-self
invariant_of-self c = record {
  kept = c.abort.ensures.rows (c.args.self.now.places - 1) (omega (arith, c.args.self.now.kept, c.requires));
}
