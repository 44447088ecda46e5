use Rattle.std.proofs.Common.{[], ◌∷◌, ◌+◌, ◌++◌, map, drop, falls, refl, sym, ◌∙◌, ap, append_assoc}
use Rattle.std.proofs.lemmas.List.{drop_all}
use Rattle.std.proofs.lemmas.Result.{IfOk-from_err}
use Rattle.lemmas.proofs.Steps.{drop_step}
use Rattle.adya_dsg.specs.Machinery.Arcs.{ends}
use Rattle.adya_dsg.specs.Mirror.{edge_of}
use Rattle.adya_dsg.proofs.FlatMaps.{all_added}
use Rattle.adya_dsg.proofs.arcs.add_arcs.Goals as goal

pub loop-edge-init : goal.loop-edge-init
loop-edge-init c = refl

pub bounds-edges-edge-index : goal.bounds-edges-edge-index
bounds-edges-edge-index c = c.loop-edge-test.true

pub arc-requires : goal.arc-requires
arc-requires c = tt

pub returns-in_err-push : goal.returns-in_err-push
returns-in_err-push c = IfOk-from_err c.from_residual.result _ c.from_residual.ensures.0

pub loop-edge-smaller : goal.loop-edge-smaller
loop-edge-smaller c = falls _ _ c.loop-edge-test.true

pub loop-edge-preserved : goal.loop-edge-preserved
loop-edge-preserved c =
    let edges = c.args.edges.now in
    let done = c.loop-edge.arcs.items in
    let i = c.loop-edge.edge-index in
    let rest = map ends (map edge_of (drop (i + 1) edges)) in
    ap (λ bs. bs ++ rest) (c.in_ok-push.ensures.items ∙ ap (λ a. done ++ a ∷ []) c.arc.ensures) ∙
    (append_assoc done (ends (edge_of c.edge-item.result) ∷ []) rest ∙
    (ap (λ es. done ++ map ends (map edge_of es)) (sym (drop_step edges i c.edge-item.result c.loop-edge-test.true c.edge-item.is)) ∙
    c.loop-edge.invariant))

pub returns : goal.returns
returns c =
    all_added ends c.loop-edge.arcs.items _ _
    (ap (map edge_of) (drop_all c.loop-edge.edge-index c.args.edges.now c.loop-edge-test.false)) c.loop-edge.invariant
