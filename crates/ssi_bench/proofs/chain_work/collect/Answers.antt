use Rattle.ssi_versions.specs.Mirror.{chain_of}
use Rattle.ssi_versions.specs.Clauses.ByStamp.{is_wanted}
use Rattle.ssi_bench.proofs.Stamps.{above_kept}
use Rattle.ssi_bench.proofs.chain_work.collect.Goals as goal

pub returns-then-open-stamp : goal.returns-then-open-stamp
returns-then-open-stamp g c =
    let old = g.C.Chains.held c.args.chains.now in
    above_kept _ old (g.C.Chains.held c.collect.new.self) _ c.requires c.collect.ensures.kept

pub returns-else-work : goal.returns-else-work
returns-else-work g c =
    let old = g.C.Chains.held c.args.chains.now in
    above_kept _ old (g.C.Chains.held c.collect-else-work.new.self) _ c.requires c.collect-else-work.ensures.kept
