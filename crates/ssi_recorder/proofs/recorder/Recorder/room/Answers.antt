use Rattle.ssi_recorder.proofs.recorder.Recorder.room.Goals as goal

pub invariant_of-self : goal.invariant_of-self
invariant_of-self c = record { kept = c.reserve.ensures.kept c.args.self.now.places c.args.self.now.kept }
