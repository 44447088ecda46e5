use Rattle.std.proofs.Common.{◌≡◌, rules}
use Rattle.std.proofs.lemmas.Fn.{always_returns_same}
use Rattle.std.proofs.lemmas.List.Filters.{dedup_is}
use Rattle.digraph.proofs.Arcs.{same_arc, same_deduped, rises_once}
use Rattle.digraph.proofs.distinct.each_once.Goals as goal

pub returns-clause-same : goal.returns-clause-same
returns-clause-same c =
    same_deduped c.args.arcs.items _ _ c.sort_unstable_by_key.ensures.permutation
    (dedup_is same_arc _ _ c.dedup.ensures.filtered)

pub returns-clause-rise : goal.returns-clause-rise
returns-clause-rise c =
    rises_once _ _
    (c.sort_unstable_by_key.ensures.sorted (λ a. (a.from, a.to))
    (always_returns_same _ (λ a r. r ≡ (a.0.now.from, a.0.now.to)) _ (λ a r q k. search rules)))
    (dedup_is same_arc _ _ c.dedup.ensures.filtered)
