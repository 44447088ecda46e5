use Rattle.std.proofs.Common.{rules}
use Rattle.ssi_recorder.proofs.recorder.Recorder.open.Goals as goal

pub returns-clause-places : goal.returns-clause-places
returns-clause-places c = search rules
