use Rattle.std.proofs.Common.{◌≡◌, ◌<◌, List, [], map, fold, ap, sym, subst, ◌∙◌, arith}
use Rattle.std.proofs.lemmas.List.Sums.{fold-append}
use Rattle.adya_values.specs.Meaning.Edges.{Edge}
use Rattle.adya_values.specs.Computing.EdgeList.{with_edge, edge_list}
use Rattle.adya_dsg.specs.Machinery.VersionOrders.{ordered_history}
use Rattle.adya_dsg.specs.Machinery.PartEdges.{part_edges}
use Rattle.adya_dsg.specs.Mirror.{edge_of}
use Rattle.adya_dsg.specs.declared.edge.Edge.{Edge as EdgeValue}
use Rattle.adya_dsg.proofs.DistinctEdges.{copied}
use Rattle.adya_dsg.proofs.Parts.{edges_before, one_more, all_parts, pushed}
use Rattle.adya_dsg.proofs.listing.edges_of.Goals as goal

pub loop-part-preserved : goal.loop-part-preserved
loop-part-preserved c =
    let h = ordered_history c.args.versions.now in
    let i = c.loop-part.part in
    let l = subst (λ n. i < n) c.count_parts-part-end.ensures c.loop-part-test.true in
    let given = pushed h i c.deref.result.now _ _ c.deref.ensures.value c.in_ok-push_part_edges.ensures c.clear.ensures.items in
    c.in_ok-add.ensures ∙
    (ap (fold with_edge (map edge_of c.loop-part.set.keys)) given ∙
    (ap (λ (zs : List Edge). fold with_edge zs (part_edges h i)) c.loop-part.invariant ∙
    (sym (fold-append with_edge [] (edges_before h i) (part_edges h i)) ∙
    ap (fold with_edge []) (sym (one_more h i l)))))

listed : (c : goal.After-drop-set-inside-5) → map edge_of c.as_slice.result.now ≡ edge_list (ordered_history c.args.versions.now)
listed c =
    let n = c.count_parts-part-end.ensures in
    ap (λ (zs : List EdgeValue). map edge_of zs) c.as_slice.ensures.keys ∙
    (c.loop-part.invariant ∙
    ap (fold with_edge [])
    (all_parts (ordered_history c.args.versions.now) c.loop-part.part (omega (arith, c.loop-part-test.false, n))))

pub returns : goal.returns
returns c =
    let all = edge_list (ordered_history c.args.versions.now) in
    copied c.from_slice.result c.as_slice.result.now all c.from_slice.ensures.items (listed c)
