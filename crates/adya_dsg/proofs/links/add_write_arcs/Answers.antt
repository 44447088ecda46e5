use Rattle.std.proofs.Common.{◌+◌, ◌++◌, List, map, drop, flat_map, ◌∙◌, ap, ◌<◌, ◌≤◌, falls, refl, subst}
use Rattle.std.proofs.lemmas.List.{drop_all}
use Rattle.std.proofs.lemmas.Result.{IfOk-from_err}
use Rattle.adya_values.specs.Meaning.Histories.{Order}
use Rattle.adya_values.specs.Mirror.Lines.{orders_of}
use Rattle.digraph.specs.declared.arc.Arc.{Arc}
use Rattle.adya_dsg.specs.Machinery.Arcs.{ends}
use Rattle.adya_dsg.specs.Machinery.PartEdges.{line_edges}
use Rattle.adya_dsg.proofs.FlatMaps.{added_front, all_added}
use Rattle.adya_dsg.proofs.LineEdges.{edges_here}
use Rattle.adya_dsg.proofs.links.add_write_arcs.Goals as goal

pub loop-line-preserved : goal.loop-line-preserved
loop-line-preserved c =
    let os = orders_of c.args.orders.now in
    let i = c.loop-line.line in
    let ws = c.writers.result.now in
    let f = λ (o : Order). line_edges o.key o.writers in
    let rest = flat_map f (drop (i + 1) os) in
    let here = edges_here os i ws c.writers.ensures in
    ap (λ (zs : List Arc). zs ++ map ends rest) (c.in_ok-push_write_arcs.ensures here.0) ∙
    added_front ends c.loop-line.arcs.items _ (flat_map f (drop i os)) (line_edges here.0 ws) rest here.1 c.loop-line.invariant

pub len-line-end-requires : goal.len-line-end-requires
len-line-end-requires c = tt

pub loop-line-init : goal.loop-line-init
loop-line-init c = refl

pub writers-requires : goal.writers-requires
writers-requires c = subst (λ n. c.loop-line.line < n) c.len-line-end.ensures.length c.loop-line-test.true

pub push_write_arcs-requires : goal.push_write_arcs-requires
push_write_arcs-requires c = tt

pub returns-in_err-push_write_arcs : goal.returns-in_err-push_write_arcs
returns-in_err-push_write_arcs c = IfOk-from_err c.from_residual.result _ c.from_residual.ensures.0

pub loop-line-smaller : goal.loop-line-smaller
loop-line-smaller c = falls _ _ c.loop-line-test.true

pub returns : goal.returns
returns c =
    let i = c.loop-line.line in
    all_added ends c.loop-line.arcs.items _ _
    (ap (flat_map (λ (o : Order). line_edges o.key o.writers))
    (drop_all i (orders_of c.args.orders.now) (subst (λ n. n ≤ i) c.len-line-end.ensures.length c.loop-line-test.false)))
    c.loop-line.invariant
