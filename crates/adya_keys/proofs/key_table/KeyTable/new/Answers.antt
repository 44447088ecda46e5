use Rattle.adya_keys.proofs.KeyChains.{no_table}
use Rattle.adya_keys.proofs.key_table.KeyTable.new.Goals as goal

pub invariant_of-result : goal.invariant_of-result
invariant_of-result c = record { table = rw (c.new.ensures, c.new-2.ensures.items, c.new-3.ensures.items) no_table }
