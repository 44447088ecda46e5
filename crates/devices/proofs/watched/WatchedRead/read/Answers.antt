use Rattle.std.proofs.Common.{rules}
use Rattle.devices.proofs.watched.WatchedRead.read.Goals as goal

pub returns-then-self-eq0-clause-untouched : goal.returns-then-self-eq0-clause-untouched
returns-then-self-eq0-clause-untouched g c = search rules

pub returns-in-Ok-clause-one_less : goal.returns-in-Ok-clause-one_less
returns-in-Ok-clause-one_less g c = search rules

pub returns-in-Ok-clause-counted : goal.returns-in-Ok-clause-counted
returns-in-Ok-clause-counted g c = search rules

pub returns-in-Err-clause-counted : goal.returns-in-Err-clause-counted
returns-in-Err-clause-counted g c = search rules
