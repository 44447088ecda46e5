use Rattle.ssi_recorder.proofs.recorder.Recorder.event.Goals as goal

pub invariant_of-self : goal.invariant_of-self
invariant_of-self c = record { kept = c.push_owned.ensures.rows c.args.self.now.places c.requires.0 }
