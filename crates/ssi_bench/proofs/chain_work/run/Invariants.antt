use Rattle.ssi_versions.specs.Mirror.{IsAbove}
use Rattle.ssi_bench.proofs.chain_work.run.Given as goal

abbrev pub invariant-loop-stamp : goal.invariant-loop-stamp
invariant-loop-stamp g l = IsAbove l.stamp (g.C.Chains.held l.chains)
