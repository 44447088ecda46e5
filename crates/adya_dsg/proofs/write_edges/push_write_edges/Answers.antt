use Rattle.std.proofs.Common.{◌∙◌, ◌+◌, ◌++◌, ◌-◌, ◌∷◌, Some, map, take, drop, length, sym, ap, append_assoc, falls, le_refl, append-nil}
use Rattle.std.proofs.lemmas.Result.{IfOk-from_err}
use Rattle.adya_values.specs.Meaning.Edges.{Ww}
use Rattle.adya_values.specs.Computing.EdgeList.{joined}
use Rattle.adya_dsg.specs.Mirror.{edge_of}
use Rattle.adya_dsg.specs.Machinery.PartEdges.{line_edges}
use Rattle.lemmas.proofs.Steps.{drop_step}
use Rattle.adya_dsg.proofs.LineEdges.{no_line, first_and_rest, after_last}
use Rattle.adya_dsg.proofs.write_edges.push_write_edges.Goals as goal

pub loop-to-preserved : goal.loop-to-preserved
loop-to-preserved c =
    let k = c.args.key in
    let xs = drop 1 c.args.writers.now in
    let rest = take (length c.args.writers.now - 1) xs in
    let i = c.loop-to.to-index in
    let x = c.to-item.result in
    let done = map edge_of c.loop-to.edges.items in
    let edge = joined Ww k (Some c.loop-to.last) (Some x) in
    let later = line_edges k (x ∷ drop (i + 1) rest) in
    ap (λ es. es ++ later) c.in_ok-push_edge.ensures ∙
    (append_assoc done edge later ∙
    (ap (λ zs. done ++ line_edges k (c.loop-to.last ∷ zs)) (sym (drop_step rest i x c.loop-to-test.true c.to-item.is)) ∙
    c.loop-to.invariant))

pub returns-in_default : goal.returns-in_default
returns-in_default c =
    let old = map edge_of c.args.edges.now.items in
    sym (append-nil old) ∙ ap (λ es. old ++ es) (sym (no_line c.args.key c.args.writers.now c.in_default.len_below))

pub slice_bounds-rest-count : goal.slice_bounds-rest-count
slice_bounds-rest-count c = c.in-len1-up.len_at_least

pub bounds-writers-0 : goal.bounds-writers-0
bounds-writers-0 c = c.in-len1-up.len_at_least

pub slice_bounds-rest-start : goal.slice_bounds-rest-start
slice_bounds-rest-start c = c.in-len1-up.len_at_least

pub slice_bounds-rest-end : goal.slice_bounds-rest-end
slice_bounds-rest-end c = le_refl _

pub loop-to-init : goal.loop-to-init
loop-to-init c =
    ap (λ ws. map edge_of c.args.edges.now.items ++ line_edges c.args.key ws)
    (first_and_rest c.args.writers.now c.first-item.result c.in-len1-up.len_at_least c.first-item.is)

pub bounds-rest-to-index : goal.bounds-rest-to-index
bounds-rest-to-index c = c.loop-to-test.true

pub push_edge-requires : goal.push_edge-requires
push_edge-requires c = tt

pub returns-in_err-push_edge : goal.returns-in_err-push_edge
returns-in_err-push_edge c = IfOk-from_err c.from_residual.result _ c.from_residual.ensures.0

pub loop-to-smaller : goal.loop-to-smaller
loop-to-smaller c = falls _ _ c.loop-to-test.true

pub returns : goal.returns
returns c =
    let now = map edge_of c.loop-to.edges.items in
    sym (append-nil now) ∙
    (ap (λ es. now ++ es) (sym (after_last c.args.key c.loop-to.last _ c.loop-to.to-index c.loop-to-test.false)) ∙ c.loop-to.invariant)
