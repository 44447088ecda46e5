use Rattle.std.proofs.Common.{length, ap, rules}
use Rattle.adya_line.proofs.Scans.{none_more, one_more}
use Rattle.adya_line.proofs.entries.EntriesIterator.next.Goals as goal

pub returns-in_err-entry-clause-steps : goal.returns-in_err-entry-clause-steps
returns-in_err-entry-clause-steps c =
    let none = (none_more c.args.self.now.rest.now c.in_err-entry.ensures).0 in
    rw c.from_residual.ensures (none, none)

pub returns-clause-steps : goal.returns-clause-steps
returns-clause-steps c = (one_more c.args.self.now.rest.now _ _ c.in_ok-entry.ensures).0

pub returns-clause-goes : goal.returns-clause-goes
returns-clause-goes c =
    let shorter = ap length (one_more c.args.self.now.rest.now _ _ c.in_ok-entry.ensures).0 in search rules
