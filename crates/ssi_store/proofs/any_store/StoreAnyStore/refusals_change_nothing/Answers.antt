use Rattle.ssi_store.proofs.Refusals.{stands_before}
use Rattle.ssi_store.proofs.any_store.StoreAnyStore.refusals_change_nothing.Goals as goal

pub returns : goal.returns
returns g c = λ course command r. stands_before _ _ _ course command r
