use Rattle.adya_dsg.proofs.event_links.links_at_go_forward.Goals as goal

pub txn-txn-requires : goal.txn-txn-requires
txn-txn-requires c = c.requires.there

pub installer-from-requires : goal.installer-from-requires
installer-from-requires c = c.requires.within

pub overwriter-to-requires : goal.overwriter-to-requires
overwriter-to-requires c = c.requires.within

pub goes_forward-requires : goal.goes_forward-requires
goes_forward-requires c = tt
