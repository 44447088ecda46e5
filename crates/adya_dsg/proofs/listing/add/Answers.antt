use Rattle.std.proofs.Common.{◌+◌, List, map, fold, drop, sym, ap, ◌∙◌}
use Rattle.adya_values.specs.Meaning.Edges.{Edge}
use Rattle.adya_values.specs.Computing.EdgeList.{with_edge}
use Rattle.adya_dsg.specs.Mirror.{edge_of}
use Rattle.adya_dsg.specs.declared.edge.Edge.{Edge as EdgeValue}
use Rattle.lemmas.proofs.Steps.{drop_step}
use Rattle.adya_dsg.proofs.DistinctEdges.{inserted}
use Rattle.adya_dsg.proofs.listing.add.Goals as goal

pub loop-edge-preserved : goal.loop-edge-preserved
loop-edge-preserved c =
    let es = c.args.edges.now in
    let i = c.loop-edge.edge-index in
    let ks = c.loop-edge.set.keys in
    let e = c.edge-item.result in
    let rest = map edge_of (drop (i + 1) es) in
    ap (λ (zs : List EdgeValue). fold with_edge (map edge_of zs) rest) c.in_ok-insert.ensures.keys ∙
    (ap (λ (zs : List Edge). fold with_edge zs rest) (inserted ks e) ∙
    (ap (λ (zs : List EdgeValue). fold with_edge (map edge_of ks) (map edge_of zs))
    (sym (drop_step es i e c.loop-edge-test.true c.edge-item.is)) ∙ c.loop-edge.invariant))
