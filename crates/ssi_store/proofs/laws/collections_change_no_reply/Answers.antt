use Rattle.ssi_store.proofs.UnseenCollections.{reply_same}
use Rattle.ssi_store.proofs.laws.collections_change_no_reply.Goals as goal

pub returns : goal.returns
returns c pivot t log m e = reply_same pivot t log m e
