-- The chain of the key's bucket was followed so far, and the keys after the link are others.
use Rattle.std.proofs.Common.{length}
use Rattle.adya_keys.specs.Machinery.KeyTables.{keys_in}
use Rattle.adya_keys.proofs.KeyChains.{IsLink}
use Rattle.adya_keys.proofs.key_table.KeyTable.number_of.Given as goal

abbrev pub invariant-loop-link : goal.invariant-loop-link
invariant-loop-link l = IsLink (keys_in l.self) (length l.self.heads.items) l.key l.link

abbrev pub decreases-loop-link : goal.decreases-loop-link
decreases-loop-link l = l.link
