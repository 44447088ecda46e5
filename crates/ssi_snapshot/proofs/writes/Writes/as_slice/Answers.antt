use Rattle.std.proofs.Common.{◌∙◌, ap, sym}
use Rattle.ssi_snapshot.specs.Machinery.Stored.{is_keyed}
use Rattle.ssi_snapshot.proofs.Storing.{stored_apart}
use Rattle.ssi_snapshot.proofs.writes.Writes.as_slice.Goals as goal

pub returns-in-Several-clause-apart : goal.returns-in-Several-clause-apart
returns-in-Several-clause-apart c = rw c.in-Several.is (stored_apart c.in-Several.writes.entries (ap is_keyed (sym c.in-Several.is) ∙ c.requires) c.len-unique.ensures.unique)
