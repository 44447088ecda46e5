use Rattle.std.proofs.Common.{◌∙◌, ap, sym}
use Rattle.ssi_snapshot.specs.Machinery.Stored.{is_keyed}
use Rattle.ssi_snapshot.proofs.Storing.{keys_stored}
use Rattle.ssi_snapshot.proofs.writes.Writes.keys.Goals as goal

pub returns-in-Several : goal.returns-in-Several
returns-in-Several c =
    rw c.in-Several.is (c.as_slice.ensures ∙ c.keys.ensures.rest ∙ keys_stored c.in-Several.writes.entries (ap is_keyed (sym c.in-Several.is) ∙ c.requires))
