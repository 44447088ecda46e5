use Rattle.std.proofs.Common.{◌∙◌}
use Rattle.adya_terms.proofs.event_index.EventIndex.is_unfinished.Goals as goal

pub returns : goal.returns
returns c = c.contains.ensures ∙ c.args.self.now.holds c.args.txn
