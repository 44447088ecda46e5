use Rattle.std.proofs.Common.{◌<◌, ◌+◌, ◌++◌, ◌∙◌, ◌↔◌, Vec, Global, Contains, map, sym, ap, subst, arith, falls}
use Rattle.std.proofs.lemmas.Result.{IfOk-from_err}
use Rattle.digraph.specs.declared.arc.Arc.{Arc}
use Rattle.adya_values.specs.Computing.EdgeList.{dependencies}
use Rattle.adya_dsg.specs.Machinery.VersionOrders.{ordered_history}
use Rattle.adya_dsg.specs.Machinery.Arcs.{ends}
use Rattle.adya_dsg.proofs.Parts.{edges_before, all_parts, arcs_more, pushed}
use Rattle.adya_dsg.proofs.LinksDecide.{edges_are_ends, edges_decide}
use Rattle.adya_dsg.proofs.arcs.arcs_of_edges.Goals as goal
use Rattle.adya_dsg.proofs.arcs.arcs_of_edges.Goals.{then-len-kept, else-len-kept}

pub loop-part-preserved : goal.loop-part-preserved
loop-part-preserved c a =
    let h = ordered_history c.args.versions.now in
    let i = c.loop-part.part in
    let l = subst (λ n. i < n) c.count_parts-part-end.ensures c.loop-part-test.true in
    let given = pushed h i c.deref.result.now _ _ c.deref.ensures.value c.in_ok-push_part_edges.ensures c.clear.ensures.items in
    let all = map ends (edges_before h (i + 1)) in
    let added : (x : Arc) → Contains c.add_arcs.new.arcs.items x ↔ Contains all x =
    arcs_more h i l c.loop-part.arcs.items c.add_arcs.new.arcs.items c.loop-part.invariant
    (c.in_ok-add_arcs.ensures ∙ ap (λ es. c.loop-part.arcs.items ++ map ends es) given) in
    elim c.if-len-kept.branch [
      | then-len-kept w ↦
          let kept = w.each_once-arcs.ensures.same a in
          subst (λ (v : Vec Arc Global). Contains v.items a ↔ Contains all a) (sym w.arcs-is)
          (λ x. (added a).0 (kept.1 x), λ x. kept.0 ((added a).1 x))
      | else-len-kept w ↦
          subst (λ (v : Vec Arc Global). Contains v.items a ↔ Contains all a) (sym w.arcs-is) (added a)
    ]

-- once the loop has ended
all_there : (c : goal.After-drop-selector-3) → (a : Arc)
    → Contains c.loop-part.arcs.items a ↔ Contains (map ends (dependencies (ordered_history c.args.versions.now))) a
all_there c a =
    let n = c.count_parts-part-end.ensures in
    subst (λ es. Contains c.loop-part.arcs.items a ↔ Contains (map ends es) a)
    (all_parts (ordered_history c.args.versions.now) c.loop-part.part (omega (arith, c.loop-part-test.false, n)))
    (c.loop-part.invariant a)

pub returns-clause-sound : goal.returns-clause-sound
returns-clause-sound c =
    edges_are_ends c.edge_list_keeps_first.ensures (ordered_history c.args.versions.now) c.loop-part.arcs.items (all_there c)

pub returns-clause-enough : goal.returns-clause-enough
returns-clause-enough c =
    edges_decide c.edge_list_keeps_first.ensures (ordered_history c.args.versions.now) c.loop-part.arcs.items (all_there c)

pub edge_list_keeps_first-requires : goal.edge_list_keeps_first-requires
edge_list_keeps_first-requires c = tt

pub of-requires : goal.of-requires
of-requires c = tt

pub count_parts-part-end-requires : goal.count_parts-part-end-requires
count_parts-part-end-requires c = tt

pub add_arcs-requires : goal.add_arcs-requires
add_arcs-requires c = tt

pub each_once-arcs-requires : goal.each_once-arcs-requires
each_once-arcs-requires c = tt

pub push_part_edges-requires : goal.push_part_edges-requires
push_part_edges-requires c = subst (λ n. c.loop-part.part < n) c.count_parts-part-end.ensures c.loop-part-test.true

pub loop-part-smaller : goal.loop-part-smaller
loop-part-smaller c = falls _ _ c.loop-part-test.true

pub returns-in_err-selector-clause-sound : goal.returns-in_err-selector-clause-sound
returns-in_err-selector-clause-sound c = IfOk-from_err c.from_residual.result _ c.from_residual.ensures.0

pub returns-in_err-selector-clause-enough : goal.returns-in_err-selector-clause-enough
returns-in_err-selector-clause-enough c = IfOk-from_err c.from_residual.result _ c.from_residual.ensures.0

pub returns-in_err-push_part_edges-clause-sound : goal.returns-in_err-push_part_edges-clause-sound
returns-in_err-push_part_edges-clause-sound c = IfOk-from_err c.from_residual-in_err-push_part_edges.result _ c.from_residual-in_err-push_part_edges.ensures.0

pub returns-in_err-push_part_edges-clause-enough : goal.returns-in_err-push_part_edges-clause-enough
returns-in_err-push_part_edges-clause-enough c = IfOk-from_err c.from_residual-in_err-push_part_edges.result _ c.from_residual-in_err-push_part_edges.ensures.0

pub returns-in_err-add_arcs-clause-sound : goal.returns-in_err-add_arcs-clause-sound
returns-in_err-add_arcs-clause-sound c = IfOk-from_err c.from_residual-in_err-add_arcs.result _ c.from_residual-in_err-add_arcs.ensures.0

pub returns-in_err-add_arcs-clause-enough : goal.returns-in_err-add_arcs-clause-enough
returns-in_err-add_arcs-clause-enough c = IfOk-from_err c.from_residual-in_err-add_arcs.result _ c.from_residual-in_err-add_arcs.ensures.0
