use Rattle.adya_keys.proofs.KeyNumbers.{are_numbered}
use Rattle.adya_keys.specs.Machinery.KeyTables.{keys_in}
use Rattle.adya_values.proofs.events.Events.key_count.Goals as goal

pub returns-clause-numbered : goal.returns-clause-numbered
returns-clause-numbered c = are_numbered (keys_in c.args.self.now.arena.keys) c.args.self.now.arena.keys.table.unique
