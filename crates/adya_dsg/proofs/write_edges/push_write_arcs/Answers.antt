use Rattle.std.proofs.Common.{◌∙◌, ◌+◌, ◌++◌, ◌-◌, ◌∷◌, Some, map, take, drop, length, ap, falls, le_refl, refl}
use Rattle.std.proofs.lemmas.Result.{IfOk-from_err}
use Rattle.adya_values.specs.Meaning.Edges.{Ww}
use Rattle.adya_values.specs.Computing.EdgeList.{joined}
use Rattle.adya_dsg.specs.Machinery.Arcs.{ends}
use Rattle.adya_dsg.specs.Machinery.PartEdges.{line_edges}
use Rattle.lemmas.proofs.Steps.{drop_step}
use Rattle.adya_dsg.proofs.LineEdges.{no_line, first_and_rest, after_last}
use Rattle.adya_dsg.proofs.FlatMaps.{added_front, all_added}
use Rattle.adya_dsg.proofs.write_edges.push_write_arcs.Goals as goal

pub loop-to-preserved : goal.loop-to-preserved
loop-to-preserved c k =
    let rest = take (length c.args.writers.now - 1) (drop 1 c.args.writers.now) in
    let i = c.loop-to.to-index in
    let x = c.to-item.result in
    let last = c.loop-to.last in
    let later = line_edges k (x ∷ drop (i + 1) rest) in
    ap (λ zs. zs ++ map ends later) (c.in_ok-push_arc.ensures Ww k) ∙
    added_front ends c.loop-to.arcs.items _ (line_edges k (last ∷ drop i rest)) (joined Ww k (Some last) (Some x)) later
    (ap (λ zs. line_edges k (last ∷ zs)) (drop_step rest i x c.loop-to-test.true c.to-item.is)) (c.loop-to.invariant k)

pub returns-in_default : goal.returns-in_default
returns-in_default c k = all_added ends c.args.arcs.now.items _ _ (no_line k c.args.writers.now c.in_default.len_below) refl

pub slice_bounds-rest-count : goal.slice_bounds-rest-count
slice_bounds-rest-count c = c.in-len1-up.len_at_least

pub bounds-writers-0 : goal.bounds-writers-0
bounds-writers-0 c = c.in-len1-up.len_at_least

pub slice_bounds-rest-start : goal.slice_bounds-rest-start
slice_bounds-rest-start c = c.in-len1-up.len_at_least

pub slice_bounds-rest-end : goal.slice_bounds-rest-end
slice_bounds-rest-end c = le_refl _

pub loop-to-init : goal.loop-to-init
loop-to-init c k =
    ap (λ ws. c.args.arcs.now.items ++ map ends (line_edges k ws))
    (first_and_rest c.args.writers.now c.first-item.result c.in-len1-up.len_at_least c.first-item.is)

pub bounds-rest-to-index : goal.bounds-rest-to-index
bounds-rest-to-index c = c.loop-to-test.true

pub push_arc-requires : goal.push_arc-requires
push_arc-requires c = tt

pub returns-in_err-push_arc : goal.returns-in_err-push_arc
returns-in_err-push_arc c = IfOk-from_err c.from_residual.result _ c.from_residual.ensures.0

pub loop-to-smaller : goal.loop-to-smaller
loop-to-smaller c = falls _ _ c.loop-to-test.true

pub returns : goal.returns
returns c k =
    all_added ends c.loop-to.arcs.items _ _ (after_last k c.loop-to.last _ c.loop-to.to-index c.loop-to-test.false) (c.loop-to.invariant k)
