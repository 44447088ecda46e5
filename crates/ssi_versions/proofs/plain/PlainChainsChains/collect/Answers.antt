use Rattle.std.proofs.Common.{ap, subst, sym, ◌<◌, ◌∙◌, map}
use Rattle.ssi_versions.specs.Mirror.{held_of, chain_of}
use Rattle.ssi_versions.specs.Clauses.ByStamp.{is_wanted, IsByStamp}
use Rattle.ssi_versions.proofs.Keeping.{kept_chain, kept_of}
use Rattle.std.proofs.lemmas.List.Kept.{AllPairs-filter}
use Rattle.ssi_versions.proofs.plain.PlainChainsChains.collect.Goals as goal

pub invariant_of-self : goal.invariant_of-self
invariant_of-self c = record {
  rise = λ key.
      let old = chain_of key (map held_of c.args.self.now.items.items) in
      subst IsByStamp
      (sym (ap (λ xs. chain_of key (map held_of xs)) c.compact.ensures ∙ kept_chain c.args.snapshots.now key c.args.self.now.items.items
      ∙ kept_of c.args.snapshots.now old (c.args.self.now.rise key)))
      (AllPairs-filter (λ g h. g.stamp < h.stamp) (is_wanted c.args.snapshots.now old) old (c.args.self.now.rise key));
}

pub returns-clause-kept : goal.returns-clause-kept
returns-clause-kept c = λ key.
    ap (λ xs. chain_of key (map held_of xs)) c.compact.ensures ∙ kept_chain c.args.snapshots.now key c.args.self.now.items.items
    ∙ kept_of c.args.snapshots.now (chain_of key (map held_of c.args.self.now.items.items)) (c.args.self.now.rise key)
