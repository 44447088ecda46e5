use Rattle.ssi_store.proofs.Stats.{stands_before}
use Rattle.ssi_store.proofs.any_store.LiveStoreAnyStore.stats_change_nothing.Goals as goal

pub returns : goal.returns
returns g c = λ course answer. stands_before _ _ _ course answer
