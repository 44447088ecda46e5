use Rattle.std.proofs.Common.{subst, sym, ◌≡◌, ◌++◌, map, Ok, Err, OnOk, OnErr}
use Rattle.ssi_versions.specs.Mirror.{held_of, write_of, chain_of}
use Rattle.ssi_versions.specs.Clauses.ByStamp.{IsByStamp}
use Rattle.ssi_versions.specs.Machinery.Plain.{as_held}
use Rattle.ssi_versions.proofs.ByKey.{added, still_by_stamp}
use Rattle.ssi_versions.proofs.plain.PlainChainsChains.install.Goals as goal

pub invariant_of-self : goal.invariant_of-self
invariant_of-self c = record {
  rise = λ key.
      let old = c.args.self.now.items.items in
      let new = c.append.new.items.items in
      elim c.append.result as (λ r. OnOk r (new ≡ old ++ map (as_held c.args.stamp) c.args.writes.now) → OnErr r (new ≡ old) → IsByStamp (chain_of key (map held_of new))) [
        | Ok u ↦ λ more same.
            still_by_stamp key c.args.stamp (map write_of c.args.writes.now) (map held_of old) (map held_of new) (c.args.self.now.rise key) c.requires.above
            (added key c.args.stamp old new c.args.writes.now c.requires.apart more)
        | Err e ↦ λ more same. subst (λ xs. IsByStamp (chain_of key (map held_of xs))) (sym same) (c.args.self.now.rise key)
      ] c.append.ensures.added c.append.ensures.err;
}

pub returns-clause-added : goal.returns-clause-added
returns-clause-added c = λ key.
    added key c.args.stamp c.args.self.now.items.items c.append.new.items.items c.args.writes.now c.requires.apart c.in_ok-append.ensures.added
