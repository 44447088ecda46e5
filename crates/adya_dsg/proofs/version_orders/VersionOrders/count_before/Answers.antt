use Rattle.adya_dsg.proofs.version_orders.VersionOrders.count_before.Goals as goal

pub place-requires : goal.place-requires
place-requires c = tt

pub writers_before-requires : goal.writers_before-requires
writers_before-requires c = tt

pub returns : goal.returns
returns c = c.writers_before.ensures
