use Rattle.ssi_store.proofs.Records.{dumped_record, finished_record}
use Rattle.ssi_store.proofs.laws.courses_are_recorded.Goals as goal

pub returns-clause-finished : goal.returns-clause-finished
returns-clause-finished c pivot d f = finished_record pivot d f

pub returns-clause-so_far : goal.returns-clause-so_far
returns-clause-so_far c pivot d f = dumped_record pivot d f
