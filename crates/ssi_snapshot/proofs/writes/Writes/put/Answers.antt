use Rattle.std.proofs.Common.{◌∙◌, ap, map, refl, sym}
use Rattle.ssi_versions.specs.Mirror.{write_of}
use Rattle.ssi_snapshot.specs.Clauses.Writes.{put_write}
use Rattle.ssi_snapshot.specs.Machinery.Stored.{are_keyed, write_key, stored_writes, is_keyed, all_writes}
use Rattle.ssi_snapshot.proofs.Storing.{stored_put, keyed_put}
use Rattle.ssi_snapshot.proofs.writes.Writes.put.Goals as goal

pub returns-in-Several-clause-written : goal.returns-in-Several-clause-written
returns-in-Several-clause-written c =
    let w = c.args.write.now in
    ap stored_writes c.in_ok-insert-in-Several.ensures.entries
    ∙ stored_put c.in-Several.writes.entries w.0.key w (ap is_keyed (sym c.in-Several.is) ∙ c.requires) refl
    ∙ ap (λ ws. put_write (write_of w) (map write_of (all_writes ws))) (sym c.in-Several.is)

pub returns-in-Several-clause-keyed : goal.returns-in-Several-clause-keyed
returns-in-Several-clause-keyed c =
    let w = c.args.write.now in
    ap (are_keyed write_key) c.in_ok-insert-in-Several.ensures.entries
    ∙ keyed_put c.in-Several.writes.entries w.0.key w (ap is_keyed (sym c.in-Several.is) ∙ c.requires) refl
