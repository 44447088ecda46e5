use Rattle.std.proofs.Common.{◌+◌, not, cond, Some, map, drop, find, falls, refl, sym, ◌∙◌, ap}
use Rattle.std.proofs.lemmas.List.{drop_all}
use Rattle.lemmas.proofs.Steps.{drop_step}
use Rattle.adya_dsg.specs.Mirror.{edge_of}
use Rattle.adya_dsg.specs.Machinery.PartEdges.{is_backward}
use Rattle.adya_dsg.proofs.txn_places.TxnPlaces.first_backward.Goals as goal

pub loop-edge-init : goal.loop-edge-init
loop-edge-init c = refl

pub bounds-edges-edge-index : goal.bounds-edges-edge-index
bounds-edges-edge-index c = c.loop-edge-test.true

pub is_forward-requires : goal.is_forward-requires
is_forward-requires c = tt

pub returns-then-not-is_forward : goal.returns-then-not-is_forward
returns-then-not-is_forward c =
    let test = is_backward c.args.self.now.txns.now in
    let edges = c.args.edges.now in
    let i = c.loop-edge.edge-index in
    let x = c.edge-item.result in
    let rest = find test (map edge_of (drop (i + 1) edges)) in
    sym (c.loop-edge.invariant ∙
    (ap (λ es. find test (map edge_of es)) (drop_step edges i x c.loop-edge-test.true c.edge-item.is) ∙
    ap (λ b. cond (not b) (Some (edge_of x)) rest) (sym c.is_forward.ensures ∙ c.if-not-is_forward.true)))

pub loop-edge-smaller : goal.loop-edge-smaller
loop-edge-smaller c = falls _ _ c.loop-edge-test.true

pub loop-edge-preserved : goal.loop-edge-preserved
loop-edge-preserved c =
    let test = is_backward c.args.self.now.txns.now in
    let edges = c.args.edges.now in
    let i = c.loop-edge.edge-index in
    let x = c.edge-item.result in
    let rest = find test (map edge_of (drop (i + 1) edges)) in
    c.loop-edge.invariant ∙
    (ap (λ es. find test (map edge_of es)) (drop_step edges i x c.loop-edge-test.true c.edge-item.is) ∙
    ap (λ b. cond (not b) (Some (edge_of x)) rest) (sym c.is_forward.ensures ∙ c.if-not-is_forward.false))

pub returns : goal.returns
returns c =
    sym (c.loop-edge.invariant ∙
    ap (λ es. find (is_backward c.args.self.now.txns.now) (map edge_of es))
    (drop_all c.loop-edge.edge-index c.args.edges.now c.loop-edge-test.false))
