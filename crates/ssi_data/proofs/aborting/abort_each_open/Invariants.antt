-- Sessions that had a transaction were aborted, each by a line that was carried out, and nothing else was done.
use Rattle.ssi_data.specs.Clauses.Aborting.{HasCarriedOutAborts}
use Rattle.ssi_data.proofs.aborting.abort_each_open.Given as goal

abbrev pub invariant-loop : goal.invariant-loop
invariant-loop g l =
    HasCarriedOutAborts g.T.ProtocolStore.keeps g.T.AnyStore.is_at l.initial.server
    l.server
