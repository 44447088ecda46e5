use Rattle.std.proofs.Common.{rules}
use Rattle.ssi_files.proofs.Failing.{removal_fails}
use Rattle.ssi_files.proofs.directory.Directory.remove_all.Goals as goal

pub returns-in_err-remove-clause-fault : goal.returns-in_err-remove-clause-fault
returns-in_err-remove-clause-fault c =
    removal_fails c.from_residual.result c.in-Some.number.now c.in_err-remove.field-0.0 c.loop-number.self.calls.events c.remove.new.self.calls.events
    (search rules) c.in_err-remove.ensures
