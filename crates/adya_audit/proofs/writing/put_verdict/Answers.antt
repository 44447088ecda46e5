use Rattle.adya_audit.proofs.writing.put_verdict.Goals as goal

pub returns-in-Syntax : goal.returns-in-Syntax
returns-in-Syntax g c = rw c.in-Syntax.is c.put_syntax.ensures

pub returns-in-Malformed : goal.returns-in-Malformed
returns-in-Malformed g c = rw c.in-Malformed.is c.put_malformed.ensures

pub returns-in-AbortedRead : goal.returns-in-AbortedRead
returns-in-AbortedRead g c = rw c.in-AbortedRead.is c.put_read.ensures

pub returns-in-IntermediateRead : goal.returns-in-IntermediateRead
returns-in-IntermediateRead g c = rw c.in-IntermediateRead.is c.put_read-in-IntermediateRead.ensures

pub returns-in-NotTheCommitted : goal.returns-in-NotTheCommitted
returns-in-NotTheCommitted g c = rw c.in-NotTheCommitted.is c.put-in-NotTheCommitted.ensures.wrote
