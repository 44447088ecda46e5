use Rattle.std.proofs.Common.{arith, subst, ◌<◌, ◌∙◌, ap, sym, length}
use Rattle.ssi_versions.specs.Clauses.ByStamp.{is_wanted, IsByStamp}
use Rattle.ssi_versions.specs.Mirror.{chain_of}
use Rattle.ssi_versions.specs.Machinery.Keyed.{versions, is_owned, filled_count}
use Rattle.std.proofs.lemmas.List.Kept.{AllPairs-filter}
use Rattle.ssi_versions.proofs.Collected.{collected, owned-collected, filled-collected, shorter-collected, wanted-collected}
use Rattle.ssi_versions.proofs.keyed.KeyChainsChains.collect.Goals as goal

pub count-self-requires : goal.count-self-requires
count-self-requires c =
    omega (arith, ap (λ es. length (versions es)) (c.compact_all.ensures.kept ∙ ap (λ ss. collected ss c.args.self.now.chains.entries) c.looked_through-told.ensures), shorter-collected c.args.stamps.now c.args.self.now.chains.entries, c.args.self.now.counted)

pub returns-clause-kept : goal.returns-clause-kept
returns-clause-kept c = λ q.
    wanted-collected c.args.stamps.now q c.args.self.now.chains.entries c.compact_all.new.chains.entries c.args.self.now.owned c.compact_all.ensures.ordered.0 c.compact_all.ensures.ordered.1
    (c.args.self.now.rise q) (c.compact_all.ensures.kept ∙ ap (λ ss. collected ss c.args.self.now.chains.entries) c.looked_through-told.ensures)

pub invariant_of-self : goal.invariant_of-self
invariant_of-self c = record {
  owned = ap is_owned (c.compact_all.ensures.kept ∙ ap (λ ss. collected ss c.args.self.now.chains.entries) c.looked_through-told.ensures) ∙ owned-collected c.args.stamps.now c.args.self.now.chains.entries c.args.self.now.owned;
  rise = λ q.
      let old = chain_of q (versions c.args.self.now.chains.entries) in
      subst IsByStamp (sym (wanted-collected c.args.stamps.now q c.args.self.now.chains.entries c.compact_all.new.chains.entries c.args.self.now.owned c.compact_all.ensures.ordered.0 c.compact_all.ensures.ordered.1
      (c.args.self.now.rise q) (c.compact_all.ensures.kept ∙ ap (λ ss. collected ss c.args.self.now.chains.entries) c.looked_through-told.ensures)))
      (AllPairs-filter (λ g h. g.stamp < h.stamp) (is_wanted c.args.stamps.now old) old (c.args.self.now.rise q));
  counted = c.count-self.ensures;
  named = c.args.self.now.named ∙ sym (filled-collected c.args.stamps.now c.args.self.now.chains.entries) ∙ ap filled_count (sym (c.compact_all.ensures.kept ∙ ap (λ ss. collected ss c.args.self.now.chains.entries) c.looked_through-told.ensures));
}
