use Rattle.std.proofs.Common.{map}
use Rattle.std.proofs.lemmas.Bool.{le-leb}
use Rattle.ssi_versions.specs.Mirror.{held_of}
use Rattle.ssi_versions.specs.Machinery.Keyed.{placed}
use Rattle.ssi_versions.proofs.Rising.{newest_seen}
use Rattle.ssi_versions.proofs.keyed.newest_at.Goals as goal

pub returns-then-held-stamp : goal.returns-then-held-stamp
returns-then-held-stamp c =
    newest_seen c.args.stamp (map placed c.args.chain.now) (held_of c.in-Some.held) (rw c.in-Some.is at c.newest.ensures)
    (le-leb c.in-Some.held.stamp c.args.stamp c.if-held-stamp.true)
