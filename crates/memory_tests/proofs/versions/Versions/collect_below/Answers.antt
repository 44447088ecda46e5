-- The versions that a collection keeps are some of those that were held, so their stamps are below the next one too.
use Rattle.std.proofs.Common.{◌<◌, sym, subst}
use Rattle.std.specs.List.{All}
use Rattle.std.proofs.lemmas.List.Elements.{All-filter}
use Rattle.ssi_versions.specs.Mirror.{chain_of}
use Rattle.ssi_versions.specs.Clauses.ByStamp.{is_wanted}
use Rattle.memory_tests.proofs.versions.Versions.collect_below.Goals as goal

pub invariant_of-self : goal.invariant_of-self
invariant_of-self g c =
    let old = g.C.Chains.held c.args.self.now.chains in
    record {
      above = λ key. subst (All (λ h. h.stamp < c.args.self.now.next)) (sym (c.collect.ensures.kept key))
          (All-filter (is_wanted c.args.snapshots.now (chain_of key old)) (λ h. h.stamp < c.args.self.now.next)
          (chain_of key old) (c.args.self.now.above key));
    }
