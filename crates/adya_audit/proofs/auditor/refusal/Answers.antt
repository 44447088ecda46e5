use Rattle.std.proofs.Common.{rules}
use Rattle.adya_audit.proofs.auditor.refusal.Goals as goal

pub returns-in-AbortedRead : goal.returns-in-AbortedRead
returns-in-AbortedRead c = search rules

pub returns-in-Memory : goal.returns-in-Memory
returns-in-Memory c = search rules
