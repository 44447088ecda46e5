use Rattle.std.proofs.Common.{◌∙◌, ap}
use Rattle.ssi_snapshot.specs.Machinery.Stored.{are_keyed, entry_key}
use Rattle.ssi_snapshot.proofs.Merging.{stored_put, keyed_put}
use Rattle.ssi_snapshot.proofs.merge.put.Goals as goal

pub returns-clause-stored : goal.returns-clause-stored
returns-clause-stored c = λ key. stored_put key c.args.entry.now c.args.seen.now.entries c.insert.new.self.entries (c.in_ok-insert.ensures.updates.0 key)

pub returns-clause-keyed : goal.returns-clause-keyed
returns-clause-keyed c = λ keyed. ap (are_keyed entry_key) c.in_ok-insert.ensures.entries ∙ keyed_put c.args.seen.now.entries c.args.entry.now keyed
