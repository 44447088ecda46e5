use Rattle.ssi_store.proofs.RisingOpens.{rise_after_end}
use Rattle.ssi_store.proofs.roster.Roster.end.Goals as goal

pub invariant_of-self : goal.invariant_of-self
invariant_of-self c = record {
  rising = rise_after_end c.args.self.now.open_txns.entries _ c.args.txn c.args.self.now.rising c.shift_remove.ensures.entries;
}
