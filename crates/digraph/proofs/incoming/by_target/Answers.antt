use Rattle.std.proofs.Common.{◌≡◌, rules}
use Rattle.std.proofs.lemmas.Fn.{always_returns_same}
use Rattle.digraph.proofs.Arcs.{rises_by_target, same_permuted}
use Rattle.digraph.proofs.incoming.by_target.Goals as goal

pub returns-clause-rises : goal.returns-clause-rises
returns-clause-rises c =
    rises_by_target _ (c.sort_unstable_by_key.ensures.sorted (λ a. (a.to, a.from))
    (always_returns_same _ (λ a r. r ≡ (a.0.now.to, a.0.now.from)) _ (λ a r q k. search rules)))

pub returns-clause-same : goal.returns-clause-same
returns-clause-same c = same_permuted c.args.arcs.items _ c.sort_unstable_by_key.ensures.permutation
