use Rattle.std.proofs.Common.{rules}
use Rattle.ssi_store.proofs.RisingOpens.{rise_after_begin}
use Rattle.ssi_store.proofs.roster.Roster.begin.Goals as goal

pub invariant_of-self : goal.invariant_of-self
invariant_of-self c = record {
  rising = rise_after_begin c.args.self.now.open_txns.entries c.insert-added.new.self.entries c.args.txn c.args.snapshot c.requires.above
      c.args.self.now.rising (Prim.search rules);
}
